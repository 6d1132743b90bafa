use Rattle.server_code.proofs.Words.{◌∷◌, ◌++◌, ◌∙◌, [], List, ℕ, ap, sym, take, append_assoc, take_more}
use Rattle.server_code.proofs.make.push_bytes.Goals as goal

-- one coefficient more is added
pub loop-k-preserved : goal.loop-k-preserved
loop-k-preserved c =
    let row = c.args.row.now in
    let k = c.loop-k.k in
    let before = c.args.rows.now.items in
    let coefficient = c.coefficient.inside.0 in
    c.in_ok-push.ensures.items
    ∙ ap (λ (items : List ℕ). items ++ coefficient ∷ []) c.loop-k.invariant
    ∙ append_assoc before (take k row) (coefficient ∷ [])
    ∙ ap (λ (x : ℕ). before ++ (take k row ++ x ∷ [])) (c.coefficient.view_is ∙ c.index-row-k.is)
    ∙ ap (λ (items : List ℕ). before ++ items) (sym (take_more row k c.index-row-k.result c.loop-k-test.true))
