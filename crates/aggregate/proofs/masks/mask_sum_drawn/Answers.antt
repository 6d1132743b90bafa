use Rattle.std.proofs.Common.{◌≡◌, ◌-◌, ℕ, ap, sym, subst, ◌∙◌, arith, suc}
use Rattle.hail_field.specs.Nim.{nim_add, nim_mul}
use Rattle.column_defs.specs.Keys.{mask_of}
use Rattle.challenge.specs.Asked.{asked}
use Rattle.aggregate.proofs.Horner.{Splits, splits_end, splits_more, splits_start}
use Rattle.aggregate.proofs.masks.mask_sum_drawn.Goals as goal

pub loop-k-init : goal.loop-k-init
loop-k-init c = splits_end (asked c.args.drawn.now.challenge) (mask_of c.args.key.now)

pub loop-k-preserved : goal.loop-k-preserved
loop-k-preserved c =
    let drawn = c.args.drawn.now in
    let m = c.loop-k.k - 1 in
    let next : c.loop-k.k ≡ suc m = omega (arith, c.loop-k-test.true) in
    let row = drawn.rows_are m (omega (arith, c.loop-k.auto.k, c.loop-k-test.true)) in
    splits_more (asked drawn.challenge) (mask_of c.args.key.now) c.loop-k.k m c.mask.result c.loop-k.sum
    c.mul-sum.result next
    (ap (mask_of c.args.key.now) (sym row) ∙ sym c.mask.ensures)
    (c.mul-sum.ensures ∙ (λ i. nim_mul (drawn.weight_is i) (c.add.ensures i)))
    c.loop-k.invariant

pub returns : goal.returns
returns c =
    let none : c.loop-k.k ≡ 0 = omega (arith, c.loop-k-test.false) in
    let C = asked c.args.drawn.now.challenge in
    splits_start C (mask_of c.args.key.now) c.loop-k.sum
    (subst (λ (k : ℕ). Splits C (mask_of c.args.key.now) k c.loop-k.sum) none c.loop-k.invariant)
