-- A job that runs alone, as a run of the machine: a begin, and its steps up to its end.
--
--   AreSteps w moment job ms               == steps of the job that all answered more, from this state on,
--                                             after so many events; the newest first
--   RunsJob w moment kind own answer heard new
--                                          == the job of this kind begins in the state, after so many events,
--                                             of a put also with a profile of its own, and its steps come to
--                                             this answer and leave the new state; it heard these entries
--   RunsPart w moment kind own count new   == the job begins so, and so many steps, which all answered more,
--                                             leave the new state
use Rattle.std.specs.Prelude.{◌≡◌, ℕ, ◌+◌, List, [], ◌∷◌, length, Option}
use Rattle.machine_defs.specs.Jobs.{Kind, job_of}
use Rattle.machine_defs.specs.Answers.{Answer}
use Rattle.machine_defs.specs.Events.{Step, More, Begun, Ended}
use Rattle.machine_defs.specs.States.{State}
use Rattle.machine_defs.specs.Begins.{BeginsAt}
use Rattle.machine_defs.specs.Machine.{Happens}
use Rattle.machine_defs.specs.Runs.{Moment, now}
use Rattle.machine_defs.specs.Heard.{Entry, heard_by}

-- steps of a job that all answered more, from a state on, after so many events
abbrev pub AreSteps : State → ℕ → ℕ → List Moment → Type 0
AreSteps w moment job [] = Unit {0}
AreSteps w moment job (m ∷ ms) =
    (m.event ≡ Step job) × (m.outcome ≡ More)
    × Happens 8 (moment + length ms) (now w ms) (Step job) More m.state × AreSteps w moment job ms

-- a job goes on from a state, after so many events, to its end
pub record GoesOnTo (w : State) (moment job : ℕ) (answer : Answer) (heard : List Entry)
    (new : State) : Type 0 where
  pub steps : List Moment
  pub are_steps : AreSteps w moment job steps
  pub ends : Happens 8 (moment + length steps) (now w steps) (Step job) (Ended answer) new
  pub heard_is : heard ≡ heard_by (job_of (now w steps).jobs job)

-- a job begins in a state, after so many events, and goes on to its end
pub record RunsJob (w : State) (moment : ℕ) (kind : Kind) (own : Option ℕ) (answer : Answer)
    (heard : List Entry) (new : State) : Type 0 where
  pub begun : State
  pub job : ℕ
  pub begins : BeginsAt 8 moment w kind own (Begun job) begun
  pub goes_on : GoesOnTo begun (moment + 1) job answer heard new

-- a job begins in a state, after so many events, and makes so many steps that all answer more
pub record RunsPart (w : State) (moment : ℕ) (kind : Kind) (own : Option ℕ) (count : ℕ)
    (new : State) : Type 0 where
  pub begun : State
  pub job : ℕ
  pub begins : BeginsAt 8 moment w kind own (Begun job) begun
  pub steps : List Moment
  pub are_steps : AreSteps begun (moment + 1) job steps
  pub made : length steps ≡ count
  pub last : new ≡ now begun steps
