use Rattle.std.proofs.Common.{◌≡◌}
use Rattle.bench_works.proofs.get.made_all.Given as goal

-- the bench is for a file of so many providers
abbrev pub invariant-loop-i : goal.invariant-loop-i
invariant-loop-i l = l.bench.keys.file.shape.n ≡ l.n
