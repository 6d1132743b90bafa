-- What the events of a run tell of its jobs: which event began a job that runs.
--
--   IsBeginOf event job      == the event is the begin of this job: of its kind, or, of a put, with its profile
--   IsBeginOfKind event kind == the event is the begin of a job of this kind, of a put also with a profile
--   NoneBegan number ms      == none of these moments came to the begin of a job of the number
--   WasBegun ms number job   == one of these moments began this job, as the last one that began one of the
--                               number
--   IsPutBegin event name bytes  == the event is the begin of a put of these bytes under this name
--   GivesUp event            == the event gives up all jobs
--   IsOfJob answer           == a job alone ends so, and not what runs alone; nor is it a failure
use Rattle.std.specs.Prelude.{◌≡◌, ◌≢◌, ◌⊎◌, ℕ, List, [], ◌∷◌, ◌++◌, length}
use Rattle.machine_defs.specs.Jobs.{Kind, PutJob, Job}
use Rattle.machine_defs.specs.Answers.{Answer, Put, Got, Dropped, Audited, Repaired, Upgraded}
use Rattle.machine_defs.specs.Events.{Event, Begin, BeginAt, Stop, Reopen, Continue, Begun}
use Rattle.machine_defs.specs.Runs.{Moment}

-- an event is the begin of a job
abbrev pub IsBeginOf : Event → Job → Type 0
IsBeginOf event job = (event ≡ Begin job.kind)
    ⊎ ((name : List ℕ) × (bytes : List ℕ) × (job.kind ≡ PutJob name bytes)
    × (event ≡ BeginAt job.profile name bytes))

-- an event is the begin of a job of this kind
abbrev pub IsBeginOfKind : Event → Kind → Type 0
IsBeginOfKind event kind = (event ≡ Begin kind)
    ⊎ ((profile : ℕ) × (name : List ℕ) × (bytes : List ℕ) × (kind ≡ PutJob name bytes)
    × (event ≡ BeginAt profile name bytes))

-- none of these moments came to the begin of a job, or of what runs alone, with the number
abbrev pub NoneBegan : ℕ → List Moment → Type 0
NoneBegan number [] = Unit {0}
NoneBegan number (m ∷ ms) = (m.outcome ≢ Begun number) × NoneBegan number ms

-- one of these moments began this job, as the last one that began one of the number
pub record WasBegun (ms : List Moment) (number : ℕ) (job : Job) : Type 0 where
  pub later : List Moment
  pub moment : Moment
  pub before : List Moment
  pub split : ms ≡ later ++ moment ∷ before
  pub begun : job.begun ≡ length before
  pub event : IsBeginOf moment.event job
  pub outcome : moment.outcome ≡ Begun number
  pub last : NoneBegan number later

-- an event is the begin of a put of these bytes under this name
abbrev pub IsPutBegin : Event → List ℕ → List ℕ → Type 0
IsPutBegin event name bytes =
    (event ≡ Begin (PutJob name bytes)) ⊎ ((profile : ℕ) × (event ≡ BeginAt profile name bytes))

-- an event gives up all jobs, whatever comes of it
abbrev pub GivesUp : Event → Type 0
GivesUp (Stop picks) = Unit {0}
GivesUp Reopen = Unit {0}
GivesUp Continue = Unit {0}
GivesUp event = ⊥

-- a job ends so that did what it was for
abbrev pub IsOfJob : Answer → Type 0
IsOfJob Put = Unit {0}
IsOfJob (Got bytes) = Unit {0}
IsOfJob Dropped = Unit {0}
IsOfJob (Audited number undecided counts) = Unit {0}
IsOfJob (Repaired number) = Unit {0}
IsOfJob Upgraded = Unit {0}
IsOfJob answer = ⊥
