-- Outcomes as their lines are read: a list of the names by the names and sizes in it.
--
--   AreListed files told           == files have these names and sizes, in this order
--   IsListedAs file told           == there is a file of a size exactly where the list tells one, of that size
--   IsRead outcome told            == an outcome is read as this one
--   IsToldList files               == a list of them is told by its lines: their names are names, and numbers
--                                     fit 64 bits
--   IsToldByLines outcome          == the lines of an outcome tell it, but for what a list leaves out
--   NoneCalls commands             == none of these commands is a later call of the program, which writes
--                                     nothing
--   calls_none commands            == the same, as a test
--   ReadsAs commands ms outcomes   == moments carry out the commands, which end as these outcomes are read, as
--                                     many as commands
use Rattle.std.specs.Prelude.{◌≡◌, ◌≢◌, ◌<◌, ◌^◌, ◌&&◌, Bool, true, false, not, IsTrue, List, [], ◌∷◌, ◌++◌, length, Option, None, Some}
use Rattle.std.specs.List.{AllByRecursion}
use Rattle.record_defs.specs.Records.{is_name}
use Rattle.record_defs.specs.Table.{File}
use Rattle.machine_defs.specs.Events.{Event, Continue, Outcome, Listed}
use Rattle.machine_defs.specs.Runs.{Moment}
use Rattle.machine_defs.specs.Transcripts.{Instruction, Once, RunJob, RunsToEnd}
use Rattle.line_laws.specs.Told.{IsToldByLine}

-- files have these names and sizes
abbrev pub AreListed : List File → List File → Type 0
AreListed [] [] = Unit {0}
AreListed (f ∷ fs) (g ∷ gs) = (f.name ≡ g.name) × (f.size ≡ g.size) × AreListed fs gs
AreListed fs gs = ⊥

-- there is a file exactly where the list tells one, and of the size that it tells
abbrev pub IsListedAs : Option File → Option File → Type 0
IsListedAs None None = Unit {0}
IsListedAs (Some file) (Some told) = file.size ≡ told.size
IsListedAs file told = ⊥

-- an outcome is read as this one
abbrev pub IsRead : Outcome → Outcome → Type 0
IsRead r (Listed told) = (files : List File) × (r ≡ Listed files) × AreListed files told
IsRead r told = r ≡ told

-- a file's line tells its name and its size
pub record IsToldFile (file : File) : Type 0 where
  pub name : IsTrue (is_name file.name)
  pub size : file.size < 2 ^ 64

-- the lines of a list tell the names and sizes in it
pub record IsToldList (files : List File) : Type 0 where
  pub few : length files < 2 ^ 64
  pub each : AllByRecursion IsToldFile files

-- the lines of an outcome tell it, but for what a list leaves out
abbrev pub IsToldByLines : Outcome → Type 0
IsToldByLines (Listed files) = IsToldList files
IsToldByLines outcome = IsToldByLine outcome

-- none of these commands is a later call of the program
abbrev pub NoneCalls : List Instruction → Type 0
NoneCalls [] = Unit {0}
NoneCalls (Once event ∷ commands) = (event ≢ Continue) × NoneCalls commands
NoneCalls (RunJob job ∷ commands) = NoneCalls commands

-- an event is a later call of the program, as a test
abbrev pub is_call : Event → Bool
is_call Continue = true
is_call event = false

-- none of these commands is one, as a test
abbrev pub calls_none : List Instruction → Bool
calls_none [] = true
calls_none (Once event ∷ commands) = not (is_call event) && calls_none commands
calls_none (RunJob job ∷ commands) = calls_none commands

-- moments carry out commands, which end as these outcomes are read
abbrev pub ReadsAs : List Instruction → List Moment → List Outcome → Type 0
ReadsAs [] ms [] = ms ≡ []
ReadsAs (Once event ∷ commands) ms (r ∷ rs) =
    (m : Moment) × (older : List Moment) × (ms ≡ m ∷ older) × (m.event ≡ event) × IsRead m.outcome r
    × ReadsAs commands older rs
ReadsAs (RunJob job ∷ commands) ms (r ∷ rs) =
    (m : Moment) × (steps : List Moment) × (older : List Moment) × (ms ≡ m ∷ (steps ++ older))
    × RunsToEnd job m steps × IsRead m.outcome r × ReadsAs commands older rs
ReadsAs commands ms outcomes = ⊥
