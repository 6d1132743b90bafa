-- The job that a begin makes.
--
--   pin_of_file f          == a file as a job works on it
--   pins_for t w           == the files that a job of this wish works on
--   size_of_turn n w flags == how many actions it has at each stripe or round
--   other_actions n w      == how many it may have at most besides those on its files
--   most_at n w flags ts   == how many it may have at most, with these tasks
--   subject_for t w        == its number: that of the due audit for a repair, and none yet for any other
--   cursor_first w tasks   == where it begins
--   IsMade t s k w job     == a job as it is made
--   starts_for w           == 1 for a put, which has a PutStart
--   appends_for w          == how many appends it has
--   admitted c w job       == the core in which the job runs
--   AreMore stripes old new == a job runs besides the old ones, with the next number, that was given so many
--                             stripes
use Rattle.std.specs.Prelude.{◌≡◌, ℕ, ◌+◌, ◌*◌, Bool, List, [], ◌∷◌, ◌++◌, length, replicate, sum_by, Option, None, Some}
use Rattle.record_defs.specs.Records.{Setup}
use Rattle.record_defs.specs.Table.{File, find_file}
use Rattle.machine_defs.specs.Begins.{pins_by, due_number, due_flags, chosen}
use Rattle.vault_table.specs.Values.{Kept}
use Rattle.vault_core.specs.declared.pinned.Pinned.{Pinned}
use Rattle.vault_core.specs.declared.wish.Wish.{Wish}
use Rattle.vault_core.specs.declared.wish.Wish.TheVariants as wish
use Rattle.vault_core.specs.declared.cursor.Move.TheVariants as move
use Rattle.vault_core.specs.declared.cursor.Cursor.{Cursor}
use Rattle.vault_core.specs.declared.cursor.Cursor.TheVariants as at
use Rattle.vault_core.specs.declared.job.Task.{Task}
use Rattle.vault_core.specs.declared.job.Job.{Job}
use Rattle.vault_core.specs.Wished.{aim_of_wish, profile_named}
use Rattle.vault_core.specs.View.{CoreJob, CoreView, core_pins, flag_at, job_in}
use Rattle.vault_core.specs.Parts.{core_job}
use Rattle.vault_core.specs.Rest.{rewrites_from}
use Rattle.vault_core.specs.Reserves.{sizes_of}
use Rattle.vault_core.specs.Targets.{targets_of, turns_for, tasks_made}

-- a file as a job works on it
abbrev pub pin_of_file : File → Pinned
pin_of_file f = record { id = f.id; length = f.size; profile = f.profile }

-- the files that a job of this wish works on
abbrev pub pins_for : Kept → Wish → List Pinned
pins_for t w = pins_by core_pins pin_of_file (find_file t.files) t.files (aim_of_wish w)

-- how many actions it has at each stripe or round
abbrev pub size_of_turn : ℕ → Wish → List Bool → ℕ
size_of_turn n (wish.Get name) flags = n + 1
size_of_turn n wish.Repair flags = n + 1 + length (rewrites_from 0 n flags 0 0)
size_of_turn n w flags = n

-- how many it may have at most besides those on its files
abbrev pub other_actions : ℕ → Wish → ℕ
other_actions n (wish.Put name size own) = 9 + n
other_actions n (wish.Get name) = 1
other_actions n (wish.Drop name) = 5 + n
other_actions n wish.Audit = 9
other_actions n wish.Repair = 5
other_actions n wish.Upgrade = 5

-- how many it may have at most, with these tasks
abbrev pub most_at : ℕ → Wish → List Bool → List Task → ℕ
most_at n w flags tasks = sum_by (λ (t : Task). t.turns * size_of_turn n w flags) tasks + other_actions n w

-- its number, if it has one from its begin on
abbrev pub subject_for : Kept → Wish → ℕ
subject_for t wish.Repair = due_number t.due
subject_for t w = 0

-- where it begins behind a first append, if it has one
abbrev pub cursor_on : Cursor → List Task → Cursor
cursor_on closing [] = closing
cursor_on closing (t ∷ ts) =
    at.Calling (record { object = t.object; turn = 0; turns = t.turns; behind = 1 }) 0

-- where it begins
abbrev pub cursor_first : Wish → List Task → Cursor
cursor_first (wish.Get name) tasks = cursor_on at.Ending tasks
cursor_first wish.Repair tasks = cursor_on (at.Closing move.Body) tasks
cursor_first wish.Upgrade tasks = at.Closing move.Body
cursor_first w tasks = at.Opening move.Body

-- how many appends it has
abbrev pub appends_for : Wish → ℕ
appends_for w = length (sizes_of 1 0 w)

-- a job as it is made
pub record IsMade (t : Kept) (s : Setup) (k : ℕ) (w : Wish) (job : Job) : Type 0 where
  pub number : job.number ≡ k
  pub wish : job.wish ≡ w
  pub profile : job.profile ≡ chosen s (profile_named w)
  pub pinned : job.pinned.items ≡ pins_for t w
  pub tasks : job.tasks.items ≡ tasks_made (turns_for s w) (targets_of w job.profile 0 job.pinned.items)
  pub flags : (j : ℕ) → flag_at job.flagged j ≡ due_flags s.tolerance t.due j
  pub subject : job.subject ≡ subject_for t w
  pub older : job.older ≡ None
  pub appends : job.appends ≡ appends_for w
  pub place : job.place ≡ 0
  pub cursor : job.cursor ≡ cursor_first w job.tasks.items
  pub undecided : job.undecided ≡ 0
  pub counts : job.counts ≡ record { n = s.n; by = replicate 16 0 }

-- 1 for a put, which has a PutStart
abbrev pub starts_for : Wish → ℕ
starts_for (wish.Put name size own) = 1
starts_for w = 0

-- the core in which the job runs
abbrev pub admitted : CoreView → Wish → Job → CoreView
admitted c w job = record c {
  table = record c.table { spare = c.table.spare + starts_for w };
  jobs = c.jobs ++ core_job job ∷ [];
  next_job = c.next_job + 1;
}

-- a job runs besides the old ones, with the next number
pub record AreMore (stripes : Option ℕ) (old new : CoreView) : Type 0 where
  pub job : CoreJob
  pub jobs : new.jobs ≡ old.jobs ++ job ∷ []
  pub number : job.number ≡ old.next_job
  pub told : job.told ≡ stripes
  pub here : job_in new.jobs old.next_job ≡ Some job
