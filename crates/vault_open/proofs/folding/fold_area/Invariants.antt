use Rattle.vault_open.proofs.Words.{◌≡◌, ◌-◌, List, length, Record, Area, base_of, IsReadInto}
use Rattle.vault_open.proofs.folding.fold_area.Given as goal

abbrev pub invariant-loop-table : goal.invariant-loop-table
invariant-loop-table l =
    (area : Area) × (rs : List Record) × (l.base ≡ base_of area) × IsReadInto l.bytes area rs l.table l.gate

abbrev pub decreases-loop-table : goal.decreases-loop-table
decreases-loop-table l = length l.bytes - l.gate
