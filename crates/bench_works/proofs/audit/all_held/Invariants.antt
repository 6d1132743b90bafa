use Rattle.std.proofs.Common.{◌≡◌}
use Rattle.bench_works.proofs.audit.all_held.Given as goal

-- the bench is for the file
abbrev pub invariant-loop-provider : goal.invariant-loop-provider
invariant-loop-provider l = l.bench.keys.file ≡ l.file
