use Rattle.hail_top.proofs.Words.{◌≡◌, upto}
use Rattle.hail_top.proofs.row.points.Given as goal

abbrev pub invariant-loop-place : goal.invariant-loop-place
invariant-loop-place l = l.points.items ≡ upto l.place
