-- A core and the states of the machine that it stands for.
--
--   IsKindOf wish kind          == the machine's kind of a wish: a put's bytes are as many as it says
--   pin_of f                    == a pinned file, without its bytes
--   seen_plan j                 == the plan of a job of the machine, without bytes
--   has_asked s j               == an audit that has asked all that it asks
--   shown told plan             == a plan as a core sees it: that of an open stream is of the longest file
--   HasTold s told job          == a put has at least the bytes of so many stripes
--   IsAimOf told wish kind      == the machine's kind of a wish; of a stream, a put of this name of any file
--   IsJobOf s c j               == a job of a core stands for a job of the machine; an open stream for each
--                                  put with at least the stripes given so far
--   IsShortAim aim              == a put of this aim has at most 2^22 bytes
--   IsShortKindOf told wish k   == the machine's kind of a wish, or of a stream, with at most 2^22 bytes
--   IsCoreFlight c append       == the append in flight is that of the same job, and its record is the one
--                                  that this job writes
--   CoreIs c w                  == a core stands for a state of the machine: its vault is open, nothing runs
--                                  alone, and its table is that of the journal that the disk holds
--   refusal_of fault            == the machine's refusal
--   job_begun w moment kind own == the state after a begin, of a put also with a profile of its own
--   IsNextOf w number next      == what comes next for a job in a state of the machine
--   IsEntryOf w number e        == the record that the append of a job writes in a state of the machine
use Rattle.std.specs.Prelude.{◌≡◌, ℕ, ◌+◌, ◌*◌, ◌<◌, ◌≤◌, ◌&&◌, Bool, true, false, not, IsTrue, [], ◌∷◌, ◌++◌, length, map, replicate, slice_get, Option, None, Some}
use Rattle.std.specs.List.{AllZip}
use Rattle.column_defs.specs.Verdicts.{Sums}
use Rattle.record_defs.specs.Records.{Setup, Record, largest_file}
use Rattle.machine_defs.specs.Jobs.{Kind, AuditJob, Aim, ToPut, aim_of, Job, job_of}
use Rattle.machine_defs.specs.Jobs.{Pinned as PinnedBytes}
use Rattle.machine_defs.specs.Actions.{Action, Plan, actions_of}
use Rattle.machine_defs.specs.Refusals as refusal
use Rattle.machine_defs.specs.Refusals.{Refusal}
use Rattle.machine_defs.specs.States.{State, Append, setup_in, journal_end}
use Rattle.machine_defs.specs.Appends.{Writes, is_first_append}
use Rattle.machine_defs.specs.Audits.{HasSums}
use Rattle.machine_defs.specs.Begins.{beginning}
use Rattle.machine_defs.specs.Steps.{next_action, holder_of}
use Rattle.state_laws.specs.Sound.{IsSound}
use Rattle.vault_table.specs.Values.{IsFoldOf}
use Rattle.vault_core.specs.declared.action.Next.{Next}
use Rattle.vault_core.specs.declared.action.Next.TheVariants as next
use Rattle.vault_core.specs.declared.pinned.Pinned.{Pinned}
use Rattle.vault_core.specs.declared.wish.Wish.{Wish}
use Rattle.vault_core.specs.declared.wish.BeginFault.{BeginFault}
use Rattle.vault_core.specs.declared.wish.BeginFault.TheVariants as fault
use Rattle.vault_core.specs.Wished.{aim_of_wish}
use Rattle.vault_core.specs.Streams.{stripe_size, IsTold}
use Rattle.vault_core.specs.View.{CoreJob, CoreView, plan_in}
use Rattle.vault_core.specs.Coming.{seen_action, asks_next, is_move, written_in}

-- the machine's kind of a wish
abbrev pub IsKindOf : Wish → Kind → Type 0
IsKindOf w kind = aim_of_wish w ≡ aim_of kind

-- a pinned file, without its bytes
abbrev pub pin_of : PinnedBytes → Pinned
pin_of f = record { id = f.id; length = length f.bytes; profile = f.profile }

-- the plan of a job of the machine, without bytes
abbrev pub seen_plan : Job → Plan Pinned
seen_plan j = record {
  aim = aim_of j.kind;
  profile = j.profile;
  subject = j.subject;
  older = j.older;
  flagged = j.flagged;
  pins = map pin_of j.pinned;
}

-- no provider was counted yet, and no round was undecided
abbrev pub sums_at_start : Setup → Sums
sums_at_start s = record { counts = replicate s.n 0; undecided = 0 }

-- an audit
abbrev pub is_audit_kind : Kind → Bool
is_audit_kind AuditJob = true
is_audit_kind kind = false

-- an audit that has asked all that it asks
abbrev pub has_asked : Setup → Job → Bool
has_asked s j =
    is_audit_kind j.kind
    && (not (is_first_append j) && not (asks_next (slice_get (actions_of s j) j.place)))

-- a put of the longest file
abbrev pub longest : Aim → Aim
longest (ToPut name size) = ToPut name largest_file
longest aim = aim

-- a plan as a core sees it
abbrev pub shown : Option ℕ → Plan Pinned → Plan Pinned
shown None plan = plan
shown (Some told) plan = record plan { aim = longest plan.aim }

-- the machine's kind of a wish, or any put of a stream's name
abbrev pub IsAimOf : Option ℕ → Wish → Kind → Type 0
IsAimOf None w kind = IsKindOf w kind
IsAimOf (Some told) w kind = aim_of_wish w ≡ longest (aim_of kind)

-- a put of this aim is not too long
abbrev pub IsShortAim : Aim → Type 0
IsShortAim (ToPut name size) = size ≤ largest_file
IsShortAim aim = Unit {0}

-- the machine's kind of a wish, or of a stream, with at most 2^22 bytes
abbrev pub IsShortKindOf : Option ℕ → Wish → Kind → Type 0
IsShortKindOf told w kind = IsAimOf told w kind × IsShortAim (aim_of kind)

-- a put of this aim has at least so many bytes
abbrev pub IsPutFrom : ℕ → Aim → Type 0
IsPutFrom least (ToPut name size) = least ≤ size
IsPutFrom least aim = ⊥

-- a put has at least the bytes of the stripes given so far
abbrev pub HasTold : Setup → Option ℕ → Job → Type 0
HasTold s None j = Unit {0}
HasTold s (Some stripes) j = IsPutFrom (stripes * stripe_size s j.profile) (aim_of j.kind)

-- a job of a core stands for a job of the machine
pub record IsJobOf (s : Setup) (c : CoreJob) (j : Job) : Type 0 where
  pub number : c.number ≡ j.number
  pub plan : plan_in c.plan ≡ shown c.told (seen_plan j)
  pub told : HasTold s c.told j
  pub within : IsTold s c
  pub place : c.place ≡ j.place
  pub unjudged : j.kind ≡ AuditJob → j.place < 4 → c.sums ≡ sums_at_start s
  pub judged : IsTrue (has_asked s j) → HasSums s j c.sums

-- the append in flight is that of the same job, and its record is the one that this job writes
abbrev pub IsCoreFlight : CoreView → Option Append → Type 0
IsCoreFlight c None = c.append ≡ None
IsCoreFlight c (Some a) = (c.append ≡ Some a.job) × (written_in c a.job ≡ Some a.entry)

-- a core stands for a state of the machine
pub record CoreIs (c : CoreView) (w : State) : Type 0 where
  pub sound : IsSound 8 w
  pub is_open : w.is_open ≡ true
  pub none_alone : w.alone ≡ None
  pub table : IsFoldOf w.journal c.table
  pub setup : c.setup ≡ setup_in w
  pub end : c.end ≡ journal_end w
  pub jobs : AllZip (IsJobOf c.setup) c.jobs w.jobs
  pub next_job : c.next_job ≡ w.next_job
  pub append : IsCoreFlight c w.append
  pub barred : c.barred ≡ w.is_barred

-- the machine's refusal
abbrev pub refusal_of : BeginFault → Refusal
refusal_of fault.MustReopen = refusal.MustReopen
refusal_of fault.Busy = refusal.Busy
refusal_of fault.BadName = refusal.BadName
refusal_of fault.BadProfile = refusal.BadProfile
refusal_of fault.TooLong = refusal.TooLong
refusal_of fault.OldVersion = refusal.OldVersion
refusal_of fault.NoSuchName = refusal.NoSuchName
refusal_of fault.TooManyFiles = refusal.TooManyFiles
refusal_of fault.RepairDue = refusal.RepairDue
refusal_of fault.NothingDue = refusal.NothingDue
refusal_of fault.NewVersion = refusal.NewVersion
refusal_of fault.JournalFull = refusal.JournalFull
refusal_of fault.PackTooLong = refusal.PackTooLong
refusal_of fault.Memory = refusal.Memory

-- the state after a begin, of a put also with a profile of its own
abbrev pub job_begun : State → ℕ → Kind → Option ℕ → State
job_begun w moment kind own =
    record w { jobs = w.jobs ++ beginning w moment kind own ∷ []; next_job = w.next_job + 1 }

-- a job runs and has this next action, which has to wait for this job, if for any
pub record ComesNext (w : State) (number : ℕ) (action : Action) (awaited : Option ℕ) : Type 0 where
  pub unbarred : w.is_barred ≡ false
  pub job : Job
  pub runs : job_of w.jobs number ≡ Some job
  pub comes : next_action w job ≡ Some action
  pub holder : holder_of w.append action ≡ awaited

-- what comes next for a job in a state of the machine
abbrev pub IsNextOf : State → ℕ → Next → Type 0
IsNextOf w number (next.Act a) = ComesNext w number (seen_action a) None
IsNextOf w number (next.Waiting holder) = (a : Action) × ComesNext w number a (Some holder)
IsNextOf w number next.NoSuchJob = (w.is_barred ≡ false) × (job_of w.jobs number ≡ None)
IsNextOf w number next.MustReopen = w.is_barred ≡ true

-- a job runs, its next action is a move of an append, and the append writes this record
pub record IsWriting (w : State) (number : ℕ) (entry : Record) : Type 0 where
  pub job : Job
  pub runs : job_of w.jobs number ≡ Some job
  pub moves : is_move (next_action w job) ≡ true
  pub writes : Writes w job job.kind entry

-- the record that the append of a job writes in a state of the machine; None where its next action is no
-- move of one
abbrev pub IsEntryOf : State → ℕ → Option Record → Type 0
IsEntryOf w number (Some entry) = IsWriting w number entry
IsEntryOf w number None = (job : Job) → job_of w.jobs number ≡ Some job → is_move (next_action w job) ≡ false
