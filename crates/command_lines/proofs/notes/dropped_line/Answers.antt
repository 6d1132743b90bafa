use Rattle.std.proofs.Common.{◌++◌, ◌∷◌, [], List, ℕ, ap, ◌∙◌}
use Rattle.command_lines.proofs.notes.dropped_line.Goals as goal

pub returns : goal.returns
returns c =
    let name = c.args.name.now in
    c.from_vec.ensures ∙ c.in_ok-push.ensures.items
    ∙ ap (λ (text : List ℕ). text ++ 10 ∷ []) (c.in_ok-extend_from_slice.ensures.items
    ∙ ap (λ (text : List ℕ). text ++ name) (c.in_ok-text.ensures.items_if_clones_equal (λ x y same. same)))
