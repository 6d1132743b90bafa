use Rattle.std.proofs.Common.{◌≡◌, ◌+◌, ◌≤◌, drop, length}
use Rattle.vault_core.specs.Refusing.{aims_kept, taken_names}
use Rattle.vault_core.proofs.refusal.names_beside.Given as goal

abbrev pub invariant-loop-place : goal.invariant-loop-place
invariant-loop-place l = record {
  value : length (taken_names l.table.files (aims_kept l.jobs))
      ≡ l.count + length (taken_names l.table.files (aims_kept (drop l.place l.jobs)));
  few : l.count ≤ l.place;
}
