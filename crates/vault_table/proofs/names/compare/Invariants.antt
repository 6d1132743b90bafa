use Rattle.std.proofs.Common.{◌≡◌, drop}
use Rattle.vault_table.specs.Orders.{order_of}
use Rattle.vault_table.proofs.names.compare.Given as goal

abbrev pub invariant-loop-i : goal.invariant-loop-i
invariant-loop-i l = order_of l.a l.b ≡ order_of (drop l.i l.a) (drop l.i l.b)
