use Rattle.std.proofs.Common.{◌≡◌, ◌<◌, ◌==◌, ℕ, ap, sym, ◌∙◌, subst, get_or, if◌then◌else◌}
use Rattle.column_defs.specs.Challenges.{picked_row}
use Rattle.column_defs.specs.Generator.{moved_on, next_symbol}
use Rattle.challenge.specs.Rows.{next_rows}
use Rattle.challenge.proofs.Rows.{row_drawn, row_below, weight_drawn}
use Rattle.challenge.proofs.question.Challenge.draw.Goals as goal

pub invariant_of-result : goal.invariant_of-result
invariant_of-result c =
    let seed = c.args.self.now.seed in
    let rows = c.args.self.now.rows in
    let behind = c.next_symbol.ensures.place ∙ ap (λ g. moved_on g 4) c.from_seed-rng.ensures in
    let drawn : (k : ℕ) → k < c.args.self.now.picks → get_or c.draw_rows.result k 0 ≡ picked_row seed rows k =
    λ k less. c.draw_rows.ensures k less ∙ ap (λ g. next_rows g rows k) behind ∙ row_drawn seed rows k in
    record {
      weight_is = c.weight_of-weight.ensures
          ∙ ap (λ x. if x == 0 then 1 else x) (c.next_symbol.ensures.value
          ∙ ap next_symbol c.from_seed-rng.ensures)
          ∙ weight_drawn seed;
      rows_are = drawn;
      rows_within = λ k less. subst (λ (r : ℕ). r < rows) (sym (drawn k less))
          (row_below seed rows k c.args.self.now.some_rows);
    }
