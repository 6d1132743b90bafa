use Rattle.std.proofs.Common.{◌≡◌, ◌-◌, ℕ, None, Some, true, ap, sym, subst, ◌∙◌, arith, suc, get_or, is_some, unwrap_or}
use Rattle.hail_field.specs.Nim.{nim_add, nim_mul}
use Rattle.column_defs.specs.Challenges.{alpha, held_symbol, picked_row}
use Rattle.challenge.specs.Asked.{asked}
use Rattle.aggregate.proofs.HonestAnswers.{honest_answer-absent}
use Rattle.aggregate.proofs.Horner.{Splits, splits_end, splits_more, from_more, honest_answer-sum}
use Rattle.aggregate.proofs.answers.answer_drawn.Goals as goal

pub loop-k-init : goal.loop-k-init
loop-k-init g c = record {
  held = λ j above below. absurd (omega (arith, above, below));
  total = splits_end (asked c.args.drawn.now.challenge) _;
}

pub loop-k-preserved : goal.loop-k-preserved
loop-k-preserved g c =
    let drawn = c.args.drawn.now in
    let C = asked drawn.challenge in
    let held = g.B.Blocks.held c.args.blocks.now in
    let m = c.loop-k.k - 1 in
    let next : c.loop-k.k ≡ suc m = omega (arith, c.loop-k-test.true) in
    let row = drawn.rows_are m (omega (arith, c.loop-k.auto.k, c.loop-k-test.true)) in
    let there : held_symbol C.size held (picked_row C.seed C.rows m) ≡ Some c.in-Some.symbol =
    ap (held_symbol C.size held) (sym row) ∙ sym c.symbol_in.ensures ∙ c.in-Some.is in
    record {
      held = from_more (λ (j : ℕ). is_some (held_symbol C.size held (picked_row C.seed C.rows j)) ≡ true)
          C.picks c.loop-k.k m next (ap is_some there) c.loop-k.invariant.held;
      total = splits_more C (λ row. unwrap_or (held_symbol C.size held row) 0) c.loop-k.k m c.in-Some.symbol
          c.loop-k.sum c.mul-sum.result next (ap (λ s. unwrap_or s 0) there)
          (c.mul-sum.ensures ∙ (λ i. nim_mul (drawn.weight_is i) (c.add.ensures i))) c.loop-k.invariant.total;
    }

-- a picked row without a symbol
pub returns-in_default : goal.returns-in_default
returns-in_default g c =
    let drawn = c.args.drawn.now in
    let C = asked drawn.challenge in
    let held = g.B.Blocks.held c.args.blocks.now in
    let m = c.loop-k.k - 1 in
    let row = drawn.rows_are m (omega (arith, c.loop-k.auto.k, c.loop-k-test.true)) in
    sym (honest_answer-absent C held m (omega (arith, c.loop-k.auto.k, c.loop-k-test.true))
    (ap (held_symbol C.size held) (sym row) ∙ sym c.symbol_in.ensures ∙ c.in_default.is))

pub returns : goal.returns
returns g c =
    let C = asked c.args.drawn.now.challenge in
    let held = g.B.Blocks.held c.args.blocks.now in
    let none : c.loop-k.k ≡ 0 = omega (arith, c.loop-k-test.false) in
    honest_answer-sum C held c.loop-k.sum (λ k below. c.loop-k.invariant.held k (omega (arith, none)) below)
    (subst (λ (k : ℕ). Splits C (λ row. unwrap_or (held_symbol C.size held row) 0) k c.loop-k.sum) none
    c.loop-k.invariant.total)
