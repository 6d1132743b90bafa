-- A job that runs alone: where it stands after some of its steps.
--
--   MayName kind own                  == a put may name a profile of its own, and no other job
--   appends_of w kind                 == how many records a job of this kind appends
--   first_record w kind               == the first one, over the records of this state; of a get, which has
--                                        none, any
--   IsSecondRecord w job kind entry   == the second one: a put's end, or an audit's end with the sums of all
--                                        that it heard
--   HasSubject w kind job             == the number of the job: that of a put or an audit from its first move
--                                        on, that of a repair
--   RecordsAre w kind job rs          == of the job's records those are in effect whose appends are done
--   TakesAway w kind job              == the object that a put or a drop takes away, once its last append is
--                                        done
--   with_job_at w kind profile job    == what the actions of a job of this kind are made with that began in
--                                        this state, and whose file has this profile
--   with_job_of w kind job            == the same where it has the setup's
--   WalkedAt start kind profile w job == this is the state, and the job in it, after some steps that went on,
--                                        since the job began in `start`, with this profile
--   Walked start kind w job           == the same of a job with the setup's profile
use Rattle.std.specs.Prelude.{◌≡◌, ℕ, ◌+◌, ◌≤◌, true, false, List, [], ◌∷◌, length, take, Option, None, unwrap_or}
use Rattle.column_defs.specs.Verdicts.{Sums}
use Rattle.record_defs.specs.Records.{Record, AuditDone, Version}
use Rattle.record_defs.specs.Table.{version_of, next_id, next_audit, due_of}
use Rattle.machine_defs.specs.Jobs.{Kind, PutJob, DropJob, AuditJob, RepairJob, aim_of, Job}
use Rattle.machine_defs.specs.Actions.{actions_of, appends_left}
use Rattle.machine_defs.specs.States.{State, setup_in, file_in}
use Rattle.machine_defs.specs.Space.{append_sizes}
use Rattle.machine_defs.specs.Begins.{due_number, due_flags, pinned_for, new_job}
use Rattle.machine_defs.specs.Audits.{HasSums}
use Rattle.machine_defs.specs.Appends.{done_record, record_of, removable}
use Rattle.state_laws.specs.Sound.{IsSound}
use Rattle.lone_laws.specs.Made.{With, Made}

-- a put may name a profile of its own, and no other job
pub data MayName (kind : Kind) (own : Option ℕ) : Type 0 where
  none : own ≡ None → MayName kind own
  put : (name bytes : List ℕ) → kind ≡ PutJob name bytes → MayName kind own

-- how many records a job of this kind appends
abbrev pub appends_of : State → Kind → ℕ
appends_of w kind = length (append_sizes (version_of w.records) (setup_in w) (aim_of kind))

-- the first record of a job of this kind, as it stands at its begin
abbrev pub first_record : State → Kind → Record
first_record w kind = unwrap_or (record_of w.records (new_job w 0 kind) kind) Version

-- the second record of a put or an audit
abbrev pub IsSecondRecord : State → Job → Kind → Record → Type 0
IsSecondRecord w job (PutJob name bytes) entry =
    entry ≡ done_record (version_of w.records) (next_id w.records) (length bytes) job.profile
IsSecondRecord w job AuditJob entry =
    (sums : Sums) × HasSums (setup_in w) job sums
    × (entry ≡ AuditDone (next_audit w.records) sums.undecided sums.counts)
IsSecondRecord w job kind entry = ⊥

-- the number of a job
abbrev pub HasSubject : State → Kind → Job → Type 0
HasSubject w (PutJob name bytes) job = 1 ≤ job.place → job.subject ≡ next_id w.records
HasSubject w AuditJob job = 1 ≤ job.place → job.subject ≡ next_audit w.records
HasSubject w RepairJob job = job.subject ≡ due_number (due_of w.records)
HasSubject w kind job = Unit {0}

-- of a job's records those are in effect whose appends are done
pub data RecordsAre (w : State) (kind : Kind) (job : Job) (rs : List Record) : Type 0 where
  none : appends_left (setup_in w) job ≡ appends_of w kind → rs ≡ w.records → RecordsAre w kind job rs
  one : appends_left (setup_in w) job + 1 ≡ appends_of w kind → rs ≡ first_record w kind ∷ w.records
      → RecordsAre w kind job rs
  two : (entry : Record) → appends_left (setup_in w) job + 2 ≡ appends_of w kind
      → IsSecondRecord w job kind entry →
      rs ≡ entry ∷ first_record w kind ∷ w.records → RecordsAre w kind job rs

-- what the actions of a job with this profile are made with
abbrev pub with_job_at : State → Kind → ℕ → Job → With
with_job_at w kind profile job =
    record {
      setup = setup_in w;
      kind = kind;
      profile = profile;
      subject = job.subject;
      pinned = pinned_for w kind;
    }

-- what those of a job with the setup's profile are made with
abbrev pub with_job_of : State → Kind → Job → With
with_job_of w kind job = with_job_at w kind (setup_in w).profile job

-- the object that a job takes away: that of the file that its name had at its begin, once its last append
-- is done
abbrev pub TakesAway : State → Kind → Job → Type 0
TakesAway w (PutJob name bytes) job =
    appends_left (setup_in w) job ≡ 0 → job.older ≡ removable w (file_in w name)
TakesAway w (DropJob name) job = appends_left (setup_in w) job ≡ 0 → job.older ≡ removable w (file_in w name)
TakesAway w kind job = Unit {0}

-- the state, and the job in it, after some steps that went on since it began with this profile
pub record WalkedAt (start : State) (kind : Kind) (profile : ℕ) (w : State) (job : Job) : Type 0 where
  pub sound : IsSound 8 w
  pub opened : w.is_open ≡ true
  pub unbarred : w.is_barred ≡ false
  pub setup : setup_in w ≡ setup_in start
  pub jobs : w.jobs ≡ job ∷ []
  pub number : job.number ≡ 1
  pub kind_is : job.kind ≡ kind
  pub profile_is : job.profile ≡ profile
  pub pinned : job.pinned ≡ pinned_for start kind
  pub flagged : job.flagged ≡ due_flags (setup_in start).tolerance (due_of start.records)
  pub subject : HasSubject start kind job
  pub older : TakesAway start kind job
  pub records : RecordsAre start kind job w.records
  pub made : Made (with_job_at start kind profile job) (take job.place (actions_of (setup_in start) job))
      start.providers w.providers [] job.given
  pub handed : w.handed ≡ start.handed
  pub disk : start.disk_faults ≤ w.disk_faults

-- the same of a job with the setup's profile
abbrev pub Walked : State → Kind → State → Job → Type 0
Walked start kind w job = WalkedAt start kind (setup_in start).profile w job
