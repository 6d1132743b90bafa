use Rattle.dispersal_code.proofs.Words.{◌≡◌, take, values_at}
use Rattle.dispersal_code.proofs.encode.encode_row.Given as goal

abbrev pub invariant-loop-k : goal.invariant-loop-k
invariant-loop-k l = take l.k l.out ≡ values_at (take l.k l.points) l.work.rest
