use Rattle.vault.specs.Packing.{IsPackOf}
use Rattle.vault_rows.proofs.packing.run_pack.Given as goal

abbrev pub invariant-loop : goal.invariant-loop
invariant-loop g l = record { is_of : IsPackOf l.vault l.job }
