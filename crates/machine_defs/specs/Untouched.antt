-- What the events of a run tell of jobs of some kinds, as those that put or drop a name: that none of them
-- runs, and that nothing takes the name's file out.
--
--   Touches name kind          == a job of this kind puts or drops the name
--   Relies kind                == it relies on what providers hold: a get, a repair
--   IsBeginFor Meant event     == the event asks for the begin of a job of a kind that is meant
--   BeginsNone Meant m         == the moment began no such job
--   NoneBeganFor Meant ms      == so did each of these moments
--   NoneRuns Meant w           == no such job runs
--   NoneUnderWay Meant ms      == no such job runs behind these moments, as their events and outcomes tell
--   IsBeginOn, NoneBeganOn, NoneOn, IsFree  == the same of the jobs that put or drop a name
--   NoneAsksOn name commands   == none of these commands is the begin of such a job
--   IsUntouched name w         == none runs, nor is a record that takes the name's file out in flight or in
--                                 doubt
use Rattle.std.specs.Prelude.{◌≡◌, ℕ, false, IsTrue, List, [], ◌∷◌, ◌++◌, Some}
use Rattle.machine_defs.specs.Jobs.{Kind, PutJob, DropJob, Job, job_of}
use Rattle.machine_defs.specs.Answers.{Answer}
use Rattle.machine_defs.specs.Events.{Event, Begin, BeginAt, Step, Begun, Ended}
use Rattle.machine_defs.specs.States.{State, Append}
use Rattle.machine_defs.specs.Runs.{Moment}
use Rattle.machine_defs.specs.Calm.{relies}
use Rattle.machine_defs.specs.Began.{GivesUp}
use Rattle.machine_defs.specs.Transcripts.{Instruction, Once, RunJob}
use Rattle.machine_defs.specs.Survival.{takes_out, NoneTakesOut}

-- a job of this kind puts or drops the name
abbrev pub Touches : List ℕ → Kind → Type 0
Touches name (PutJob n bytes) = n ≡ name
Touches name (DropJob n) = n ≡ name
Touches name kind = ⊥

-- a job of this kind relies on what providers hold
abbrev pub Relies : Kind → Type 0
Relies kind = IsTrue (relies kind)

-- an event asks for the begin of a job of a kind that is meant
abbrev pub IsBeginFor : (Kind → Type 0) → Event → Type 0
IsBeginFor Meant (Begin kind) = Meant kind
IsBeginFor Meant (BeginAt profile name bytes) = Meant (PutJob name bytes)
IsBeginFor Meant event = ⊥

-- a moment began no job of a kind that is meant
abbrev pub BeginsNone : (Kind → Type 0) → Moment → Type 0
BeginsNone Meant m = IsBeginFor Meant m.event → (number : ℕ) → m.outcome ≡ Begun number → ⊥

-- none of these moments began one
abbrev pub NoneBeganFor : (Kind → Type 0) → List Moment → Type 0
NoneBeganFor Meant [] = Unit {0}
NoneBeganFor Meant (m ∷ ms) = BeginsNone Meant m × NoneBeganFor Meant ms

-- no job of a kind that is meant runs
abbrev pub NoneRuns : (Kind → Type 0) → State → Type 0
NoneRuns Meant w = (number : ℕ) (job : Job) → job_of w.jobs number ≡ Some job → Meant job.kind → ⊥

-- No job of a kind that is meant runs behind these moments: none began yet; the newest event gave up all
-- jobs; it began none where none was under way; or it ended the only one that began since none was.
pub data NoneUnderWay (Meant : Kind → Type 0) : List Moment → Type 0 where
  at_start : NoneUnderWay Meant []
  given_up : (m : Moment) (ms : List Moment) → GivesUp m.event → NoneUnderWay Meant (m ∷ ms)
  unbegun : (m : Moment) (ms : List Moment) → BeginsNone Meant m → NoneUnderWay Meant ms
      → NoneUnderWay Meant (m ∷ ms)
  ended : (m b : Moment) (between older : List Moment) (number : ℕ) (answer : Answer)
      → m.event ≡ Step number → m.outcome ≡ Ended answer → NoneBeganFor Meant between
      → b.outcome ≡ Begun number → NoneUnderWay Meant older
      → NoneUnderWay Meant (m ∷ (between ++ b ∷ older))

-- an event asks for the begin of a put or a drop of the name
abbrev pub IsBeginOn : List ℕ → Event → Type 0
IsBeginOn name event = IsBeginFor (Touches name) event

-- none of these moments began a put or a drop of the name
abbrev pub NoneBeganOn : List ℕ → List Moment → Type 0
NoneBeganOn name ms = NoneBeganFor (Touches name) ms

-- no job that puts or drops the name runs
abbrev pub NoneOn : List ℕ → State → Type 0
NoneOn name w = NoneRuns (Touches name) w

-- no put or drop of the name runs behind these moments, as their events and outcomes tell
abbrev pub IsFree : List ℕ → List Moment → Type 0
IsFree name ms = NoneUnderWay (Touches name) ms

-- none of these commands is the begin of a put or a drop of the name
abbrev pub NoneAsksOn : List ℕ → List Instruction → Type 0
NoneAsksOn name [] = Unit {0}
NoneAsksOn name (Once event ∷ cs) = (IsBeginOn name event → ⊥) × NoneAsksOn name cs
NoneAsksOn name (RunJob job ∷ cs) = NoneAsksOn name cs

-- no job on the name runs, nor is a record that takes its file out in flight or in doubt
pub record IsUntouched (name : List ℕ) (w : State) : Type 0 where
  pub none_runs : NoneOn name w
  pub none_flies : (a : Append) → w.append ≡ Some a → takes_out w.records name a.entry ≡ false
  pub none_takes : NoneTakesOut name w
