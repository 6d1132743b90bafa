use Rattle.hail_top.proofs.Words.{◌≡◌, take, values_at}
use Rattle.hail_top.proofs.row.values.Given as goal

abbrev pub invariant-loop-point : goal.invariant-loop-point
invariant-loop-point l = l.values.items ≡ values_at (take l.point-index l.points) l.work.rest
