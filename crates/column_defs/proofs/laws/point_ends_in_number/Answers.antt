use Rattle.column_defs.proofs.PointLaws.{point-low}
use Rattle.column_defs.proofs.laws.point_ends_in_number.Goals as goal

pub returns : goal.returns
returns c = point-low
