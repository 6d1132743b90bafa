use Rattle.std.proofs.Common.{◌∙◌, sym, arith}
use Rattle.hail_field.proofs.AllNumbers.{nim_mul_at}
use Rattle.hail_field.proofs.Table.{scale_at}
use Rattle.hail_field.proofs.laws.scale_is_multiple.Goals as goal

pub returns : goal.returns
returns c = scale_at c.args.byte c.ranges.byte.fits
    ∙ sym (nim_mul_at 3 128 c.args.byte (omega arith) c.ranges.byte.fits)
