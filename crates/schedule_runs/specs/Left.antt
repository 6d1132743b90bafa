-- The devices that a run has left, and what a replay or a trial over them goes on to.
--
--   zeros_to area                               == zeros from behind the byte that names an area up to where
--                                                  its text begins
--   disk_text area rs                           == a disk with the text of records in an area, which it
--                                                  names, and nothing in the other
--   devices_left w                              == devices of a state: the disk reads the text of its journal
--                                                  in its area, and no byte of it is loose
--   DidNothing old new end                      == no event was done
--   GoesOnWith start ms old new end             == no event was done, or moments go on with this very run
--   KeepsItsFile start ms name file old new end == the same, and the file is kept for as long as no record
--                                                  takes it out
--   KeepsSecondHalf start ms old new end        == the same, and where the whole is calm, counted from
--                                                  finished scrubs, the second half holds of it
use Rattle.std.specs.Prelude.{ℕ, ◌-◌, List, [], ◌∷◌, ◌++◌, map, replicate, Some, ◌⊎◌}
use Rattle.code_defs.specs.Points.{upto}
use Rattle.device_defs.specs.Cells.{firm}
use Rattle.schedule_runs.specs.Words.{Record, Area, base_of, magic_front, switch_of, entries, File, Moment, now, State, SecondHalf, IsScrubCalm, NeverTakenOut, IsKept, Seen, Ending, Devices, devices, IsUndone, devices_of_seen, called_behind, RunGoesOn}

-- zeros up to where the text of an area begins, behind the byte that names it
unfoldable pub zeros_to : Area → List ℕ
zeros_to area = replicate (base_of area - 8) 0

-- a disk with the text of records in an area
abbrev pub disk_text : Area → List Record → List ℕ
disk_text area rs = magic_front ++ switch_of area ∷ (zeros_to area ++ (entries rs ++ 0 ∷ []))

-- devices of a state
abbrev pub devices_left : State → Devices
devices_left w = devices (Some (firm (disk_text w.area w.journal))) w.disk_faults
    (map w.providers (upto w.handed))

-- no event was done
abbrev pub DidNothing : Seen → Seen → Ending → Type 0
DidNothing old new end = (status : ℕ) × (at : ℕ) × IsUndone status at old new end

-- no event was done, or moments go on with this run
abbrev pub GoesOnWith : State → List Moment → Seen → Seen → Ending → Type 0
GoesOnWith start ms old new end = DidNothing old new end ⊎ RunGoesOn start ms end.heard (devices_of_seen new)

-- moments go on with this run, and keep a file of it
pub record KeepsFile (start : State) (ms : List Moment) (name : List ℕ) (file : File) (new : Seen)
    (end : Ending) : Type 0 where
  pub goes_on : RunGoesOn start ms end.heard (devices_of_seen new)
  pub kept : NeverTakenOut name goes_on.later
      → IsKept (now start (goes_on.later ++ called_behind start ms)) name file

-- no event was done, or moments go on with this run, and keep a file of it
abbrev pub KeepsItsFile : State → List Moment → List ℕ → File → Seen → Seen → Ending → Type 0
KeepsItsFile start ms name file old new end = DidNothing old new end ⊎ KeepsFile start ms name file new end

-- moments go on with this run, and gets end well where the whole is calm
pub record EndsGetsWell (start : State) (ms : List Moment) (new : Seen) (end : Ending) : Type 0 where
  pub goes_on : RunGoesOn start ms end.heard (devices_of_seen new)
  pub half : IsScrubCalm start (goes_on.later ++ called_behind start ms)
      → SecondHalf start (goes_on.later ++ called_behind start ms)

-- no event was done, or moments go on with this run, and gets end well where the whole is calm
abbrev pub KeepsSecondHalf : State → List Moment → Seen → Seen → Ending → Type 0
KeepsSecondHalf start ms old new end = DidNothing old new end ⊎ EndsGetsWell start ms new end
