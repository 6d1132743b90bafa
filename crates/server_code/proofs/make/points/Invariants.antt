use Rattle.server_code.proofs.Words.{◌≡◌, upto}
use Rattle.server_code.proofs.make.points.Given as goal

abbrev pub invariant-loop-place : goal.invariant-loop-place
invariant-loop-place l = l.points.items ≡ upto l.place
