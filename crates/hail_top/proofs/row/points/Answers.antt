use Rattle.hail_top.proofs.Words.{◌≡◌, List, ◌++◌, ◌∷◌, ℕ, [], ap, ◌∙◌, sym, arith, upto, upto_more}
use Rattle.hail_top.proofs.row.points.Goals as goal

pub loop-place-preserved : goal.loop-place-preserved
loop-place-preserved c =
    let place = c.loop-place.place in
    c.in_ok-push.ensures.items
    ∙ ap (λ (x : ℕ). c.loop-place.points.items ++ x ∷ []) c.from.ensures
    ∙ ap (λ (xs : List ℕ). xs ++ place ∷ []) c.loop-place.invariant
    ∙ sym (upto_more place)

pub returns : goal.returns
returns c =
    let ended : c.loop-place.place ≡ c.args.count = omega arith in
    c.loop-place.invariant ∙ ap upto ended
