-- What a contract sees of a core, as plain data.
--
--   core_pins               == how pinned files are read
--   CoreJob                 == a running job: its number, the plan of its actions, how many of them it has
--                              made, the sums of an audit, and of an open stream the stripes given so far
--   plan_in plan            == the plan, as the machine has it
--   planned s plan          == its actions
--   rest_in s j             == those that a job has not yet made
--   appends_in s j          == how many appends it has not yet finished
--   CoreView                == the table, the setup, the length of the journal's text, the running jobs in
--                              the order of their begins, the next job number, the job whose append is in
--                              flight, and whether a disk call failed
--   job_in jobs number      == the job of that number; None where there is none
--   is_upgrading j          == a job is an upgrade
--   HasLoneUpgrade jobs     == where an upgrade runs it is the only job
--   AreRising low jobs next == the numbers of jobs ascend, from `low` on, and are below `next`
--   flag_at flags j         == the flag of provider j; false past the end
--   of_providers n          == a setup of so many providers, all else 0: the room of records and the steps
--                              left hang on no more of it
--   wants_in c number       == the stripe that an open stream waits for, its first append and the stores of
--                              all stripes given so far being done; None for every other job
--   told_in jobs number     == how many stripes the open stream of a number was given; None for every other
--                              job
--   is_open_stream job      == a job is a stream whose last piece was not given
--   HasNoStream c           == no stream is open
--
-- A stream is a put that is told the length of its file only with its last piece. While it is open its plan
-- is that of the longest file.
use Rattle.std.specs.List.{list_any, All}
use Rattle.std.specs.Prelude.{◌≡◌, ℕ, ◌+◌, ◌*◌, ◌≤◌, ◌==◌, Bool, true, false, length, List, [], ◌∷◌, Option, None, Some, drop, count_by, slice_index_or, if◌then◌else◌, is_some}
use Rattle.column_defs.specs.Verdicts.{Sums}
use Rattle.record_defs.specs.Records.{Setup}
use Rattle.machine_defs.specs.Jobs.{Aim}
use Rattle.machine_defs.specs.Sights.{is_upgrade}
use Rattle.machine_defs.specs.Actions.{Action, PinsOf, Plan, plan_actions, ends_append}
use Rattle.vault_table.specs.Values.{Kept}
use Rattle.vault_core.specs.declared.pinned.Pinned.{Pinned}

-- how pinned files are read
abbrev pub core_pins : PinsOf Pinned
core_pins = record { id = λ f. f.id; profile = λ f. f.profile; size = λ f. f.length }

-- the plan of a job, as plain data
pub record CorePlan : Type 0 where
  pub aim : Aim
  pub profile : ℕ
  pub subject : ℕ
  pub older : List ℕ
  pub flagged : List Bool
  pub pins : List Pinned

-- a running job
pub record CoreJob : Type 0 where
  pub number : ℕ
  pub plan : CorePlan
  pub place : ℕ  -- in the list of the plan's actions
  pub sums : Sums
  pub told : Option ℕ  -- how many stripes an open stream was given

-- the flag of a provider
abbrev pub flag_at : List Bool → ℕ → Bool
flag_at flags j = slice_index_or flags j false

-- a plan, as the machine has it
abbrev pub plan_in : CorePlan → Plan Pinned
plan_in p = record {
  aim = p.aim;
  profile = p.profile;
  subject = p.subject;
  older = p.older;
  flagged = flag_at p.flagged;
  pins = p.pins;
}

-- the actions of a plan
unfoldable pub planned_by : Setup → Plan Pinned → List Action
planned_by s plan = plan_actions core_pins s plan plan.aim

-- the same of a job's plan
abbrev pub planned : Setup → CorePlan → List Action
planned s p = planned_by s (plan_in p)

-- those that a job has not yet made
abbrev pub rest_in : Setup → CoreJob → List Action
rest_in s j = drop j.place (planned s j.plan)

-- how many appends a job has not yet finished
abbrev pub appends_in : Setup → CoreJob → ℕ
appends_in s j = count_by ends_append (rest_in s j)

-- a core
pub record CoreView : Type 0 where
  pub table : Kept
  pub setup : Setup
  pub end : ℕ
  pub jobs : List CoreJob
  pub next_job : ℕ
  pub append : Option ℕ
  pub barred : Bool

-- the job of a number
abbrev pub job_in : List CoreJob → ℕ → Option CoreJob
job_in [] number = None
job_in (j ∷ js) number = if j.number == number then Some j else job_in js number

-- the numbers of jobs ascend, from a number on, and are below the next
abbrev pub AreRising : ℕ → List CoreJob → ℕ → Type 0
AreRising low [] next = low ≤ next
AreRising low (j ∷ js) next = (low ≤ j.number) × AreRising (j.number + 1) js next

-- a job is an upgrade
abbrev pub is_upgrading : CoreJob → Bool
is_upgrading j = is_upgrade j.plan.aim

-- where an upgrade runs it is the only job
abbrev pub HasLoneUpgrade : List CoreJob → Type 0
HasLoneUpgrade jobs = list_any is_upgrading jobs ≡ true → length jobs ≤ 1

-- a setup of so many providers, all else 0
abbrev pub of_providers : ℕ → Setup
of_providers n =
    record { n = n; l = 0; b = 0; profile = 0; rounds = 0; picks = 0; tolerance = 0; master = [] }

-- the stripe that an open stream waits for, by its place and the stripes given so far
abbrev pub wanted_at : Setup → ℕ → Option ℕ → Option ℕ
wanted_at s place None = None
wanted_at s place (Some stripes) = if place == 4 + stripes * s.n then Some stripes else None

-- the same of a job, if it runs
abbrev pub wanted_by : Setup → Option CoreJob → Option ℕ
wanted_by s None = None
wanted_by s (Some j) = wanted_at s j.place j.told

-- the same of the job of a number
abbrev pub wants_in : CoreView → ℕ → Option ℕ
wants_in c number = wanted_by c.setup (job_in c.jobs number)

-- how many stripes a job was given that is an open stream, if it runs
abbrev pub told_by : Option CoreJob → Option ℕ
told_by None = None
told_by (Some j) = j.told

-- the same of the job of a number
abbrev pub told_in : List CoreJob → ℕ → Option ℕ
told_in jobs number = told_by (job_in jobs number)

-- a job, if it runs, is a stream whose last piece was not given
abbrev pub is_open_stream : Option CoreJob → Bool
is_open_stream None = false
is_open_stream (Some j) = is_some j.told

-- no stream is open
abbrev pub HasNoStream : CoreView → Type 0
HasNoStream c = All (λ (j : CoreJob). j.told ≡ None) c.jobs
