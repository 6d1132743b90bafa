use Rattle.vault_core.proofs.Words.{◌≡◌, ◌≤◌, length, pin_of_file, core_pins, pin_each}
use Rattle.std.proofs.Common.{drop}
use Rattle.vault_core.proofs.made.pin_all.Given as goal

abbrev pub invariant-loop-place : goal.invariant-loop-place
invariant-loop-place l = record {
  within : l.place ≤ length l.table.files;
  pinned : l.pinned.items ≡ pin_each core_pins pin_of_file (drop l.place l.table.files);
}

abbrev pub decreases-loop-place : goal.decreases-loop-place
decreases-loop-place l = l.place
