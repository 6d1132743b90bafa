-- The order of a job's actions, where an append in flight stands in it, and the order of the numbers of
-- jobs and of pinned files.
--
--   moves_made append number    == how many moves the append in flight of this job has made; 0 where none
--                                  in flight is its own
--   moves_before action         == how many moves of an append are made right before an action
--   moves_after action          == how many are made right after it
--   IsInOrder moves actions     == with so many moves of an append made, these actions end it move by move,
--                                  make every further append so, with no other action between its moves,
--                                  and come to an End, which is the last of them
--   AreNumbered low jobs next   == the numbers of jobs ascend, from `low` on, and are below `next`
--   AreAscending low pinned     == the object numbers of pinned files ascend, from `low` on
use Rattle.std.specs.Prelude.{◌≡◌, ℕ, ◌+◌, ◌≤◌, ◌==◌, List, [], ◌∷◌, Option, None, Some, if◌then◌else◌}
use Rattle.machine_defs.specs.Jobs.{Pinned, Job}
use Rattle.machine_defs.specs.Actions.{Action, WriteBody, SyncBody, WriteGate, SyncGate, End}
use Rattle.machine_defs.specs.States.{Append}

-- how many moves the append in flight of a job has made
abbrev pub moves_made : Option Append → ℕ → ℕ
moves_made None number = 0
moves_made (Some a) number = if a.job == number then a.moves else 0

-- how many moves of an append are made right before an action
abbrev pub moves_before : Action → ℕ
moves_before SyncBody = 1
moves_before WriteGate = 2
moves_before SyncGate = 3
moves_before action = 0

-- how many moves of an append are made right after an action
abbrev pub moves_after : Action → ℕ
moves_after WriteBody = 1
moves_after SyncBody = 2
moves_after WriteGate = 3
moves_after action = 0

-- the moves of each append stand together, and the End is the last action
abbrev pub IsInOrder : ℕ → List Action → Type 0
IsInOrder moves [] = ⊥
IsInOrder moves (End ∷ actions) = (moves ≡ 0) × (actions ≡ [])
IsInOrder moves (action ∷ actions) = (moves ≡ moves_before action) × IsInOrder (moves_after action) actions

-- the numbers of jobs ascend and are below the next
abbrev pub AreNumbered : ℕ → List Job → ℕ → Type 0
AreNumbered low [] next = low ≤ next
AreNumbered low (j ∷ js) next = (low ≤ j.number) × AreNumbered (j.number + 1) js next

-- the object numbers of pinned files ascend
abbrev pub AreAscending : ℕ → List Pinned → Type 0
AreAscending low [] = Unit {0}
AreAscending low (f ∷ fs) = (low ≤ f.id) × AreAscending (f.id + 1) fs
