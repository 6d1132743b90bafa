use Rattle.std.proofs.Common.{◌≡◌}
use Rattle.bench_works.proofs.decode.DecodeWork.run.Given as goal

-- the registers keep their room
abbrev pub invariant-loop-number : goal.invariant-loop-number
invariant-loop-number l = l.work.size ≡ l.initial.work.size
