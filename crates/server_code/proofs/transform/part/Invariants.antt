use Rattle.server_code.proofs.Halves.{AreDone, part_low, part_high}
use Rattle.server_code.proofs.transform.part.Given as goal

abbrev pub invariant-loop-k : goal.invariant-loop-k
invariant-loop-k l = AreDone (part_low l.c) (part_high l.c) l.half l.k l.initial.v l.v
