-- What a report has: what the fetches of gets and the asks of audits gave, job by job in the order of their
-- ends.
--
--   Entry                            == an entry of a report: which job heard it, and what its step gave
--   heard_by job                     == what a job heard, the oldest first: a get its fetches, an audit its
--                                       asks, others nothing
--   reported_after event entries     == what stays in a report after an event: a later call of the program
--                                       begins it anew
--   heard_in start ms                == what all jobs heard that ended by a step since the last call of the
--                                       program began
--   NoneContinues ms                 == in none of these moments a later call of the program began
--   EndsJob start m ms job           == a step ended this job
--   given_to job entries             == of the entries of a report those of a job, the newest first
--   HoldsForgery o bytes job entries == the fetched entries of a job hold a forgery against a file
use Rattle.std.specs.Prelude.{◌≡◌, ◌≢◌, ℕ, ◌==◌, List, [], ◌∷◌, ◌++◌, Option, None, Some, if◌then◌else◌}
use Rattle.column_defs.specs.Objects.{Object}
use Rattle.column_defs.specs.Forgeries.{IsForgery}
use Rattle.machine_defs.specs.Jobs.{Kind, GetJob, AuditJob, Given, Worked, Job, job_of}
use Rattle.machine_defs.specs.Answers.{Answer}
use Rattle.machine_defs.specs.Events.{Event, Step, Continue, Outcome, Ended}
use Rattle.machine_defs.specs.States.{State}
use Rattle.machine_defs.specs.Given.{blocks_given}
use Rattle.machine_defs.specs.Runs.{Moment, now}

-- an entry of a report: which job heard it, and what its step gave
pub record Entry : Type 0 where
  pub job : ℕ
  pub given : Given

-- an entry for each of these, the oldest first
abbrev pub entries_of : ℕ → List Given → List Entry
entries_of job [] = []
entries_of job (Worked object stripe symbols ∷ more) = entries_of job more
entries_of job (gift ∷ more) = entries_of job more ++ record { job = job; given = gift } ∷ []

-- what a job hears: a get its fetches, an audit its asks, and others nothing
abbrev pub heard_by_kind : Job → Kind → List Entry
heard_by_kind job (GetJob name) = entries_of job.number job.given
heard_by_kind job AuditJob = entries_of job.number job.given
heard_by_kind job kind = []

-- what a job has heard, if it runs
abbrev pub heard_by : Option Job → List Entry
heard_by None = []
heard_by (Some job) = heard_by_kind job job.kind

-- what the job heard that an event ended by a step
abbrev pub heard_at : State → Event → Outcome → List Entry
heard_at old (Step number) (Ended answer) = heard_by (job_of old.jobs number)
heard_at old event outcome = []

-- what stays in a report after an event: a later call of the program, whose jobs are numbered from 1 again,
-- begins it anew
abbrev pub reported_after : Event → List Entry → List Entry
reported_after Continue entries = []
reported_after event entries = entries

-- what all jobs heard that ended by a step since the last call of the program began
abbrev pub heard_in : State → List Moment → List Entry
heard_in start [] = []
heard_in start (m ∷ ms) =
    reported_after m.event (heard_in start ms) ++ heard_at (now start ms) m.event m.outcome

-- in none of these moments a later call of the program began
abbrev pub NoneContinues : List Moment → Type 0
NoneContinues [] = Unit {0}
NoneContinues (m ∷ ms) = (m.event ≢ Continue) × NoneContinues ms

-- a step ended this job
pub record EndsJob (start : State) (m : Moment) (ms : List Moment) (job : Job) : Type 0 where
  pub answer : Answer
  pub event : m.event ≡ Step job.number
  pub outcome : m.outcome ≡ Ended answer
  pub runs : job_of (now start ms).jobs job.number ≡ Some job

-- what a job was given by the entries of a report
abbrev pub given_to : ℕ → List Entry → List Given
given_to job [] = []
given_to job (e ∷ es) = if e.job == job then given_to job es ++ e.given ∷ [] else given_to job es

-- the fetched entries of a job hold a forgery against a file
pub record HoldsForgery (o : Object) (bytes : List ℕ) (job : ℕ) (entries : List Entry) : Type 0 where
  pub stripe : ℕ
  pub place : ℕ
  pub forgery : IsForgery o bytes (blocks_given (given_to job entries) o.shape.n o.id) stripe place
