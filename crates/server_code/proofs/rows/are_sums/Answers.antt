use Rattle.server_code.proofs.Words.{◌≡◌, ◌∙◌, sym, ap, refl, arith, length, get_or, get_or_read}
use Rattle.server_code.proofs.RowSteps.{sums_by_all, get_or-sums}
use Rattle.server_code.proofs.rows.are_sums.Goals as goal

pub returns-then-not-same : goal.returns-then-not-same
returns-then-not-same c = (
  (λ h. cc),
  (λ e.
      let here : get_or c.args.seen.now c.loop-row.row 0 ≡ c.row_sum.result =
      ap (λ xs. get_or xs c.loop-row.row 0) e
      ∙ get_or-sums c.args.rows.now c.args.kept.now (length c.args.seen.now) c.loop-row.row (omega arith)
      ∙ sym c.row_sum.ensures in
      c.if-not-same.ensures.1
      (sym here ∙ sym (get_or_read c.args.seen.now c.loop-row.row c.index-seen-row.result
      (omega arith) c.index-seen-row.is 0))),
)

pub returns : goal.returns
returns c = (
  (λ h. sums_by_all c.args.rows.now c.args.kept.now c.args.seen.now (length c.args.seen.now) (omega arith)
      (λ k h. c.loop-row.invariant k (omega arith))),
  (λ e. refl),
)
