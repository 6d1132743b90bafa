use Rattle.std.proofs.Common.{◌≤◌}
use Rattle.column_codec.proofs.guess.lacking.Given as goal

abbrev pub invariant-loop-j : goal.invariant-loop-j
invariant-loop-j l = l.count ≤ l.j
