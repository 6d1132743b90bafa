use Rattle.std.proofs.Common.{◌≡◌}
use Rattle.bench_works.proofs.audit.held_by.Given as goal

-- the bench is for the same file
abbrev pub invariant-loop-stripe : goal.invariant-loop-stripe
invariant-loop-stripe l = l.bench.keys ≡ l.initial.bench.keys
