use Rattle.server_code.proofs.Halves.{AreDone, join_low, join_high}
use Rattle.server_code.proofs.transform.join.Given as goal

abbrev pub invariant-loop-k : goal.invariant-loop-k
invariant-loop-k l = AreDone (join_low l.c) join_high l.half l.k l.initial.v l.v
