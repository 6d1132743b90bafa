-- Schedules as commands, and the lines of the runs that carry them out. Commands and moments have the
-- newest first.
--
--   Instruction                  == one event, or as many steps of a job as it takes until the answer is not
--                                   `more`
--   CarriesOut commands ms bytes == the moments carry out the commands, and write these bytes
use Rattle.std.specs.Prelude.{◌≡◌, ◌≢◌, ℕ, List, [], ◌∷◌, ◌++◌}
use Rattle.machine_defs.specs.Events.{Event, Step, More}
use Rattle.machine_defs.specs.Runs.{Moment}
use Rattle.machine_defs.specs.Lines.{lines_of}

-- a command of a schedule: one event, or as many steps of a job as it takes until the answer is not `more`
pub data Instruction : Type 0 where
  Once : (event : Event) → Instruction
  RunJob : (job : ℕ) → Instruction

-- steps of a job that all answered `more`
abbrev pub GoOn : ℕ → List Moment → Type 0
GoOn job [] = Unit {0}
GoOn job (m ∷ ms) = (m.event ≡ Step job) × (m.outcome ≡ More) × GoOn job ms

-- the moments of one command, with the newest apart
pub record RunsToEnd (job : ℕ) (last : Moment) (steps : List Moment) : Type 0 where
  pub step : last.event ≡ Step job
  pub over : last.outcome ≢ More
  pub before : GoOn job steps

-- moments carry out commands and write these bytes
abbrev pub CarriesOut : List Instruction → List Moment → List ℕ → Type 0
CarriesOut [] ms bytes = (ms ≡ []) × (bytes ≡ [])
CarriesOut (Once event ∷ cs) ms bytes =
    (m : Moment) × (older : List Moment) × (before : List ℕ)
    × (ms ≡ m ∷ older) × (m.event ≡ event) × CarriesOut cs older before
    × (bytes ≡ before ++ lines_of m.outcome)
CarriesOut (RunJob job ∷ cs) ms bytes =
    (m : Moment) × (steps : List Moment) × (older : List Moment) × (before : List ℕ)
    × (ms ≡ m ∷ (steps ++ older)) × RunsToEnd job m steps × CarriesOut cs older before
    × (bytes ≡ before ++ lines_of m.outcome)
