-- What runs are to keep: the two halves of the main theorem, as statements over runs.
--
--   IsRightGet begin_state job name bytes  == a get gave the bytes that were in effect under its name at
--                                          its begin, unless its fetches hold a forgery against them
--   FirstHalf start ms                     == every get that ended with bytes was right
--   SecondHalf start ms                    == every get of a stored name that ended by a step gave its
--                                          bytes, unless the count of the disk or of a provider rose since
--                                          its begin; and its begin was refused for MustReopen, Busy or
--                                          Memory alone
--   IsOpenedGet begin_state job name bytes == a get gave the bytes that what it fetched opens to
--   GotIsOpened                            == every get that ended with bytes did
--   FirstHalfHolds                         == the first half, of every run
--   SecondHalfHolds                        == the second half, of every calm run in which no audit missed
--                                          damage
use Rattle.std.specs.Prelude.{◌≡◌, ◌⊎◌, ℕ, ◌<◌, List, [], ◌∷◌, Option, None, Some, IsSome, length}
use Rattle.record_defs.specs.Table.{File}
use Rattle.device_defs.specs.Faults.{Rose}
use Rattle.machine_defs.specs.Jobs.{Kind, GetJob, Job, job_of}
use Rattle.machine_defs.specs.Refusals as refusal
use Rattle.machine_defs.specs.Refusals.{Refusal}
use Rattle.machine_defs.specs.Answers.{Answer, Got}
use Rattle.machine_defs.specs.Events.{Event, Begin, Step, Outcome, Refused, Ended}
use Rattle.machine_defs.specs.States.{State, IsStart, setup_in, file_object, file_in}
use Rattle.machine_defs.specs.Runs.{Moment, now, first_moments, IsRun}
use Rattle.machine_defs.specs.Calm.{IsCalm, since, relies}
use Rattle.machine_defs.specs.Scrubs.{AreScrubsCalm}
use Rattle.machine_defs.specs.Missed.{NoneMissed}
use Rattle.machine_defs.specs.Given.{blocks_given}
use Rattle.machine_defs.specs.Heard.{heard_by, given_to, HoldsForgery}
use Rattle.column_defs.specs.Opened.{OpensFile}

-- a get gave the bytes that were in effect under its name at its begin, unless its fetches hold a forgery
-- against them
pub record IsRightGet (begin_state : State) (job : Job) (name bytes : List ℕ) : Type 0 where
  pub file : File
  pub in_effect : file_in begin_state name ≡ Some file
  pub right : (bytes ≡ begin_state.bytes file.id)
      ⊎ HoldsForgery (file_object begin_state file) (begin_state.bytes file.id) job.number
      (heard_by (Some job))

-- the count of the disk or of a provider rose from one state to another
abbrev pub CountRose : State → State → Type 0
CountRose old new = Rose old.disk_faults new.disk_faults
    ⊎ ((j : ℕ) × (j < (setup_in old).n)
    × (Rose (old.providers j).store_faults (new.providers j).store_faults
    ⊎ Rose (old.providers j).other_faults (new.providers j).other_faults))

-- a get gave the bytes that were in effect under its name at its begin, unless a count rose since
pub record GivesOrRose (begin_state end_state : State) (name : List ℕ) (answer : Answer) : Type 0 where
  pub file : File
  pub in_effect : file_in begin_state name ≡ Some file
  pub gives : (answer ≡ Got (begin_state.bytes file.id)) ⊎ CountRose begin_state end_state

-- a begin of a get of a stored name is refused for one of these alone
abbrev pub IsGetRefusal : Refusal → Type 0
IsGetRefusal why = (why ≡ refusal.MustReopen) ⊎ ((why ≡ refusal.Busy) ⊎ (why ≡ refusal.Memory))

-- the end of a get's job by an answer gives right bytes
abbrev pub EndsRight : State → Option Job → Answer → Type 0
EndsRight begin_state None answer = Unit {0}
EndsRight begin_state (Some job) answer = by_kind job.kind answer
  where
    by_kind : Kind → Answer → Type 0
    by_kind (GetJob name) (Got bytes) = IsRightGet begin_state job name bytes
    by_kind kind how = Unit {0}

-- the end of a get's job gives bytes at all
abbrev pub EndsWell : State → State → Option Job → Answer → Type 0
EndsWell begin_state end_state None answer = Unit {0}
EndsWell begin_state end_state (Some job) answer = by_kind job.kind
  where
    by_kind : Kind → Type 0
    by_kind (GetJob name) = GivesOrRose begin_state end_state name answer
    by_kind kind = Unit {0}

-- how many events were before the begin of a job
abbrev pub begun_of : Option Job → ℕ
begun_of None = 0
begun_of (Some job) = job.begun

-- the state at the begin of a job
abbrev pub at_begin : State → List Moment → Option Job → State
at_begin start ms job = now start (first_moments (begun_of job) ms)

-- the first half, for the newest event after these moments
abbrev pub KeepsFirstHalf : State → List Moment → Event → Outcome → Type 0
KeepsFirstHalf start ms (Step number) (Ended answer) =
    EndsRight (at_begin start ms (job_of (now start ms).jobs number)) (job_of (now start ms).jobs number)
    answer
KeepsFirstHalf start ms event outcome = Unit {0}

-- the second half, for the newest event after these moments, and the state after it
abbrev pub KeepsSecondHalf : State → List Moment → Event → Outcome → State → Type 0
KeepsSecondHalf start ms (Step number) (Ended answer) new =
    EndsWell (at_begin start ms (job_of (now start ms).jobs number)) new (job_of (now start ms).jobs number)
    answer
KeepsSecondHalf start ms (Begin (GetJob name)) (Refused why) new =
    (file : File) → file_in (now start ms) name ≡ Some file → IsGetRefusal why
KeepsSecondHalf start ms event outcome new = Unit {0}

-- every get that ended was right
abbrev pub FirstHalf : State → List Moment → Type 0
FirstHalf start [] = Unit {0}
FirstHalf start (m ∷ ms) = KeepsFirstHalf start ms m.event m.outcome × FirstHalf start ms

-- every get of a stored name ended well
abbrev pub SecondHalf : State → List Moment → Type 0
SecondHalf start [] = Unit {0}
SecondHalf start (m ∷ ms) = KeepsSecondHalf start ms m.event m.outcome m.state × SecondHalf start ms

-- the first half, of every run
abbrev pub FirstHalfHolds : Type 0
FirstHalfHolds =
    (limit : ℕ) (start : State) (ms : List Moment) → IsStart start → IsRun limit start ms
    → FirstHalf start ms

-- every provider tells what it holds
abbrev pub AllTell : State → Type 0
AllTell w = (j : ℕ) → IsSome (w.providers j).held

-- the second half, of every calm run, with calm scrubs, in which no audit missed damage
abbrev pub SecondHalfHolds : Type 0
SecondHalfHolds = (limit : ℕ) (start : State) (ms : List Moment) → IsStart start → AllTell start →
    IsRun limit start ms → IsCalm relies (since start) ms → AreScrubsCalm (since start) ms →
    NoneMissed start ms → SecondHalf start ms

-- a get gave the bytes that what it fetched opens to, of the file that was in effect under its name at its
-- begin
pub record IsOpenedGet (begin_state : State) (job : Job) (name bytes : List ℕ) : Type 0 where
  pub file : File
  pub in_effect : file_in begin_state name ≡ Some file
  pub opens : OpensFile (file_object begin_state file) (length (begin_state.bytes file.id))
      (blocks_given (given_to job.number (heard_by (Some job))) (setup_in begin_state).n file.id) bytes

-- the end of a get with bytes, whose job was this one
pub record EndsGet (start : State) (m : Moment) (ms : List Moment) (job : Job)
    (name bytes : List ℕ) : Type 0 where
  pub event : m.event ≡ Step job.number
  pub outcome : m.outcome ≡ Ended (Got bytes)
  pub runs : job_of (now start ms).jobs job.number ≡ Some job
  pub kind : job.kind ≡ GetJob name

-- every get that ended with bytes gave what its fetches open to
abbrev pub GotIsOpened : Type 0
GotIsOpened = (limit : ℕ) (start : State) (m : Moment) (ms : List Moment) (job : Job) (name bytes : List ℕ) →
    IsStart start → IsRun limit start (m ∷ ms) → EndsGet start m ms job name bytes →
    IsOpenedGet (now start (first_moments job.begun ms)) job name bytes
