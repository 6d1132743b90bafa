-- How a core is kept.
--
--   plan_kept job             == the plan of a job as it is kept
--   core_job job              == what a contract sees of a job
--   view_of a                 == what a contract sees of a core
--   IsWithin n flagged cursor == the cursor is at a provider, and at a stripe or round that there is, and is
--                                one that a job of this wish comes to
--   IsSet n job               == what stays of a job as it is kept while it goes on
--   MayBeAt n job c xs        == a job may be at a cursor, and then these are the actions that it has not yet
--                                made
--   IsSteadyJob n job         == a job as it is kept, for n providers, whatever its plan
--   MayFinish n job           == a job is at the last move of an append
--   IsJobKept s job           == a job as it is kept: from its cursor on stand the actions of its plan
--   MayBegin told wish        == a job of this wish may begin, or a stream of the longest file that was given
--                                no stripe
--   IsCore a                  == a core as it is kept
use Rattle.std.specs.Prelude.{◌≡◌, ℕ, ◌+◌, ◌<◌, ◌≤◌, ◌^◌, Bool, true, false, IsTrue, nat_lt, List, [], length, map, Option, None, Some}
use Rattle.std.specs.List.{All}
use Rattle.column_defs.specs.Verdicts.{Sums}
use Rattle.record_defs.specs.Records.{Setup, is_setup, all_profiles}
use Rattle.machine_defs.specs.Actions.{Action}
use Rattle.machine_defs.specs.Left.{removes_older}
use Rattle.record_codec.specs.Entries.{counted, with_master, IsPadded}
use Rattle.vault_core.specs.declared.wish.Wish.{Wish}
use Rattle.vault_core.specs.declared.wish.Wish.TheVariants as wish
use Rattle.vault_core.specs.declared.cursor.Move.TheVariants as move
use Rattle.vault_core.specs.declared.cursor.Cursor.{Cursor}
use Rattle.vault_core.specs.declared.cursor.Cursor.TheVariants as at
use Rattle.vault_core.specs.declared.job.Task.{Task}
use Rattle.vault_core.specs.declared.job.Job.{Job}
use Rattle.vault_core.specs.declared.own.Core.TheInside.{Inside}
use Rattle.vault_core.specs.View.{CorePlan, CoreJob, CoreView, AreRising, HasLoneUpgrade, flag_at, rest_in, appends_in}
use Rattle.vault_core.specs.Wished.{aim_of_wish, profile_named, is_opener, is_closer, HasName, IsShort}
use Rattle.vault_core.specs.Rest.{rest_at, rest_of}
use Rattle.vault_core.specs.Reserves.{Reserves}
use Rattle.vault_core.specs.Coming.{most_of}
use Rattle.vault_core.specs.Going.{listed_older, decides_on}
use Rattle.vault_core.specs.Streams.{IsLongest, AreTold}
use Rattle.vault_core.specs.Targets.{turns_for, targets_of, tasks_made}

-- a cursor is at the first move of an append
abbrev pub is_start : Cursor → Bool
is_start (at.Opening move.Body) = true
is_start (at.Closing move.Body) = true
is_start c = false

-- a cursor is at the end
abbrev pub is_over : Cursor → Bool
is_over at.Ending = true
is_over c = false

-- the plan of a job as it is kept
abbrev pub plan_kept : Job → CorePlan
plan_kept job = record {
  aim = aim_of_wish job.wish;
  profile = job.profile;
  subject = job.subject;
  older = listed_older job.older;
  flagged = job.flagged;
  pins = job.pinned.items;
}

-- the sums of a job as it is kept
abbrev pub sums_kept : Job → Sums
sums_kept job = record { counts = counted job.counts; undecided = job.undecided }

-- what a contract sees of a job
abbrev pub core_job : Job → CoreJob
core_job job = record {
  number = job.number;
  plan = plan_kept job;
  place = job.place;
  sums = sums_kept job;
  told = job.told;
}

-- the setup of a core
abbrev pub setup_kept : Inside → Setup
setup_kept a = with_master a.setup a.master.0

-- what a contract sees of a core
abbrev pub view_of : Inside → CoreView
view_of a = record {
  table = a.table;
  setup = setup_kept a;
  end = a.end;
  jobs = map core_job a.jobs.items;
  next_job = a.next_job;
  append = a.append;
  barred = a.barred;
}

-- a wish that has an append
abbrev pub has_append : Wish → Bool
has_append (wish.Get name) = false
has_append w = true

-- a wish that calls providers
abbrev pub is_caller : Wish → Bool
is_caller (wish.Drop name) = false
is_caller wish.Upgrade = false
is_caller w = true

-- a wish that works on stripes
abbrev pub is_worker : Wish → Bool
is_worker (wish.Get name) = true
is_worker wish.Repair = true
is_worker w = false

-- a wish that rewrites stripes
abbrev pub is_rewriter : Wish → Bool
is_rewriter wish.Repair = true
is_rewriter w = false

-- a cursor is one that a job of this wish comes to
abbrev pub comes_to : Wish → Cursor → Bool
comes_to w (at.Opening m) = is_opener w
comes_to w (at.Calling spot j) = is_caller w
comes_to w (at.Working spot) = is_worker w
comes_to w (at.Rewriting spot j) = is_rewriter w
comes_to w (at.Closing m) = is_closer w
comes_to w (at.Removing object j) = removes_older (aim_of_wish w)
comes_to w at.Ending = true

-- a cursor is at a provider, and at a stripe or round that there is
abbrev pub IsWithin : ℕ → List Bool → Cursor → Type 0
IsWithin n flagged (at.Calling spot j) = (j < n) × (spot.turn < spot.turns)
IsWithin n flagged (at.Working spot) = spot.turn < spot.turns
IsWithin n flagged (at.Rewriting spot j) = (j < n) × (flag_at flagged j ≡ true) × (spot.turn < spot.turns)
IsWithin n flagged (at.Removing object j) = j < n
IsWithin n flagged c = Unit {0}

-- what stays of a job as it is kept while it goes on
pub record IsSet (n : ℕ) (job : Job) : Type 0 where
  pub tasks : All (λ (t : Task). 0 < t.turns) job.tasks.items
  pub idle : is_caller job.wish ≡ false → job.tasks.items ≡ []
  pub wishable : HasName job.wish × IsShort job.wish
  pub known : IsTrue (nat_lt job.profile all_profiles)
  pub own : (p : ℕ) → profile_named job.wish ≡ Some p → job.profile ≡ p
  pub flags : length job.flagged ≡ 16
  pub counts : job.counts.n ≡ n
  pub padded : IsPadded job.counts

-- a job may be at a cursor, and then these are the actions that it has not yet made
pub record MayBeAt (n : ℕ) (job : Job) (cursor : Cursor) (actions : List Action) : Type 0 where
  pub comes : comes_to job.wish cursor ≡ true
  pub within : IsWithin n job.flagged cursor
  pub rest : rest_at n job cursor ≡ actions

-- a job as it is kept, for n providers, whatever its plan
pub record IsSteadyJob (n : ℕ) (job : Job) : Type 0 where
  pub stays : IsSet n job
  pub comes : comes_to job.wish job.cursor ≡ true
  pub within : IsWithin n job.flagged job.cursor

-- a job is at the last move of an append
pub record MayFinish (n : ℕ) (job : Job) : Type 0 where
  pub steady : IsSteadyJob n job
  pub going : is_over job.cursor ≡ false
  pub appends : 0 < job.appends
  pub left : 0 < job.left
  pub decided : decides_on job ≡ true → job.left ≡ 2 + n
  pub fits : job.place + job.left < 2 ^ 64

-- A job as it is kept: from its cursor on stand the actions of its plan that it has not yet made, and its
-- tasks, its appends and the steps that it may still make are those of its plan. Until its last append is
-- done it takes nothing away.
pub record IsJobKept (s : Setup) (job : Job) : Type 0 where
  pub steady : IsSteadyJob s.n job
  pub tasks : job.tasks.items
      ≡ tasks_made (turns_for s job.wish) (targets_of job.wish job.profile job.subject job.pinned.items)
  pub listed : rest_of s.n job ≡ rest_in s (core_job job)
  pub appends : job.appends ≡ appends_in s (core_job job)
  pub left : job.left ≡ most_of s (core_job job)
  pub fits : job.place + job.left < 2 ^ 64
  pub undecided : 0 < job.appends → job.older ≡ None

-- a job of this wish may begin, or a stream of the longest file
abbrev pub MayBegin : Option ℕ → Wish → Type 0
MayBegin None w = Unit {0}
MayBegin (Some stripes) w = (stripes ≡ 0) × IsLongest (aim_of_wish w)

-- A core as it is kept: its setup is within its limits, the journal has room for all records of its jobs,
-- the table for their PutStarts, the jobs have ascending numbers, and where an upgrade runs it is the only
-- one.
pub record IsCore (a : Inside) : Type 0 where
  pub set_up : IsTrue (is_setup (setup_kept a))
  pub kept : All (IsJobKept (setup_kept a)) a.jobs.items
  pub told : AreTold (view_of a)
  pub few : length a.jobs.items ≤ 8
  pub begun : 9 ≤ a.end
  pub reserves : Reserves (view_of a)
  pub numbered : AreRising 0 (view_of a).jobs a.next_job
  pub lone : HasLoneUpgrade (view_of a).jobs
