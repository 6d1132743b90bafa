use Rattle.hail_field.proofs.Multiples.{by_16_at}
use Rattle.hail_field.proofs.laws.by_16_is_multiple.Goals as goal

pub returns : goal.returns
returns c = (by_16_at c.args.byte c.ranges.byte.fits).0
