use Rattle.column_codec.specs.ObjectKeys.{ArePoints}
use Rattle.column_codec.proofs.keys.points.Given as goal

-- the points of the providers so far
abbrev pub invariant-loop-j : goal.invariant-loop-j
invariant-loop-j l = ArePoints l.j l.file.shape.l l.master.0 l.file.id l.points
