use Rattle.std.proofs.Common.{◌-◌, ◌≡◌, ◌≤◌, length, take, drop, map, true}
use Rattle.vault_table.proofs.Words.{comes_after, comes_before, file_of_entry}
use Rattle.vault_table.proofs.files.place_of.Given as goal

abbrev pub invariant-loop-low : goal.invariant-loop-low
invariant-loop-low l = record {
  ordered : l.low ≤ l.high;
  within : l.high ≤ length l.files;
  after : comes_after l.name (take l.low (map file_of_entry l.files)) ≡ true;
  before : comes_before l.name (drop l.high (map file_of_entry l.files)) ≡ true;
}

abbrev pub decreases-loop-low : goal.decreases-loop-low
decreases-loop-low l = l.high - l.low
