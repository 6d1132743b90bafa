use Rattle.std.proofs.Common.{◌≡◌}
use Rattle.vault_table.specs.Starts.{begins_at}
use Rattle.vault_table.proofs.starts.begin_of.Given as goal

abbrev pub invariant-loop-i : goal.invariant-loop-i
invariant-loop-i l = l.at ≡ begins_at l.fn.sizes l.i
