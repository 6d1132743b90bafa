use Rattle.column_codec.proofs.Words.{◌∙◌, arith, ap, common_steps, nim_mul, nim_inv}
use Rattle.std.proofs.Common.{◌≢◌}
use Rattle.column_codec.proofs.WeightLemmas.{gaps_not_zero, inverse_gaps}
use Rattle.column_codec.proofs.weights.weight.Goals as goal

pub unwrap-requires : goal.unwrap-requires
unwrap-requires c =
    let some : c.mul-gaps.result ≢ 0 = λ e. gaps_not_zero c.args.x c.args.point c.args.l c.requires
    (cc (e)) in
    grind (arith, common_steps, some, c.inv.ensures.zero)

pub returns : goal.returns
returns c =
    let inverse = rw c.unwrap.ensures at c.inv.ensures.inverse in
    c.mul.ensures
    ∙ ap (nim_mul c.args.whole) (inverse
    ∙ ap nim_inv (c.mul-gaps.ensures ∙ (λ i. nim_mul (c.add.ensures i) (c.product_of_gaps.ensures i)))
    ∙ inverse_gaps c.args.x c.args.point c.args.l c.requires)
