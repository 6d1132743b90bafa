use Rattle.column_defs.proofs.PointLaws.{Apart-points}
use Rattle.column_defs.proofs.laws.points_differ.Goals as goal

pub returns : goal.returns
returns c = Apart-points
