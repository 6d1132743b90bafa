use Rattle.std.proofs.Common.{◌≡◌}
use Rattle.column_codec.proofs.opened.Opened.carry.Given as goal

abbrev pub invariant-loop-left : goal.invariant-loop-left
invariant-loop-left l = l.work.size ≡ l.initial.work.size
