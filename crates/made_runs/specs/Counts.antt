-- Instructions in which no call fails, and the counts of faults.
--
--   SameCounts w new  == the counts of faults of the disk and of the providers are the same in two states
--   goes_well turn    == no call fails in a turn
--   AreWell is        == nor in instructions, as far as they are told here: what runs alone is not
use Rattle.std.specs.Prelude.{◌≡◌, ℕ, Bool, true, false, List, [], ◌∷◌}
use Rattle.std.specs.List.{list_all}
use Rattle.made_runs.specs.Words.{State}
use Rattle.made_runs.specs.Turns.{Turn, NoneCame, StoreFails, Cut}
use Rattle.made_runs.specs.Instructions.{Instruction, Turned, Turns, Begins, Reopens, Comes}

-- all counts of faults are the same in two states
abbrev pub SameCounts : State → State → Type 0
SameCounts w new = (new.disk_faults ≡ w.disk_faults)
    × ((j : ℕ) → ((new.providers j).store_faults ≡ (w.providers j).store_faults)
    × ((new.providers j).other_faults ≡ (w.providers j).other_faults))

-- no call fails in a turn
abbrev pub goes_well : Turn → Bool
goes_well NoneCame = false
goes_well (StoreFails j) = false
goes_well Cut = false
goes_well turn = true

-- nor in an instruction
abbrev pub IsWell : Instruction → Type 0
IsWell (Turned n turn) = goes_well turn ≡ true
IsWell (Turns n turns) = list_all goes_well turns ≡ true
IsWell (Begins event) = Unit {0}
IsWell Reopens = Unit {0}
IsWell (Comes event outcome change) = (w : State) → SameCounts w (change w)
IsWell i = ⊥

-- nor in any of these
abbrev pub AreWell : List Instruction → Type 0
AreWell [] = Unit {0}
AreWell (i ∷ is) = IsWell i × AreWell is
