use Rattle.code_points.proofs.Words.{◌<◌, ◌-◌, ◌∙◌, ℕ, get_or, arith, nim_mul_at, nim_inv_is, exp_at, power-lt, inverse_by_log}
use Rattle.hail_field.specs.declared.tables.TheConstants.{EXP, LOG}
use Rattle.code_points.proofs.bytes.byte_inverse.Goals as goal

pub returns : goal.returns
returns c =
    let exponent : ℕ = 255 - get_or LOG c.args.a 0 in
    let small : get_or EXP exponent 0 < 256 = rw (exp_at exponent (omega arith)) (power-lt exponent) in
    nim_inv_is c.args.a (get_or EXP exponent 0)
    (nim_mul_at 3 c.args.a (get_or EXP exponent 0) c.ranges.a.fits small
    ∙ inverse_by_log c.args.a c.ranges.a.fits c.requires)
