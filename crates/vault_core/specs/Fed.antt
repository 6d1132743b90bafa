-- What a reply leaves of a core, of the job at a place among those that run.
--
--   first_at c place     == the next of the actions that the job has not yet made
--   freed c place        == the append in flight, unless it is the job's
--   ended_at c place     == the core in which the job has ended
--   barred_at c place    == the core in which the job has ended by a disk call that failed
--   goes_plainly action  == the action neither begins an append nor ends one, and is not the end
--   stepped_job j        == a job that has made its next action
--   with_at c place j    == the core with this job at that place
--   judged j sums        == an audit that has made its last ask, with these sums
--   number_drawn s t j   == the number that the job's append draws, or has drawn
--   drawn j number       == a job that has begun its append with this number
--   taken_by s t jobs j  == the object that a job takes out of effect, unless there is none or it is pinned
--   gated s t jobs j     == a job whose append is done
--   HasGated c place new == the append of the job is done: its record is in effect, if the records before let
--                           it follow
use Rattle.std.specs.Prelude.{◌≡◌, ℕ, ◌+◌, ◌==◌, Bool, true, false, List, [], ◌∷◌, slice_get, slice_set, Option, None, Some, remove, if◌then◌else◌}
use Rattle.std.specs.List.{list_any}
use Rattle.column_defs.specs.Verdicts.{Sums}
use Rattle.record_defs.specs.Records.{Setup, Record, record_size}
use Rattle.record_defs.specs.Table.{File, find_file}
use Rattle.machine_defs.specs.Jobs.{Aim, ToPut, ToDrop, ToAudit}
use Rattle.machine_defs.specs.Actions.{Action, WriteBody, SyncGate, End}
use Rattle.vault_table.specs.Values.{Kept, IsFoldOf, id_after}
use Rattle.vault_core.specs.declared.pinned.Pinned.{Pinned}
use Rattle.vault_core.specs.View.{CoreJob, CoreView, rest_in, appends_in}

-- the next of the actions that a job has not yet made
abbrev pub first_action : Setup → Option CoreJob → Option Action
first_action s None = None
first_action s (Some j) = slice_get (rest_in s j) 0

-- the same of the job at a place
abbrev pub first_at : CoreView → ℕ → Option Action
first_at c place = first_action c.setup (slice_get c.jobs place)

-- an append is that of a job
abbrev pub is_own : Option ℕ → Option CoreJob → Bool
is_own (Some number) (Some j) = number == j.number
is_own flight job = false

-- the append in flight, unless it is that of the job at a place
abbrev pub freed : CoreView → ℕ → Option ℕ
freed c place = if is_own c.append (slice_get c.jobs place) then None else c.append

-- the job at a place has ended
abbrev pub ended_at : CoreView → ℕ → CoreView
ended_at c place = record c { jobs = remove c.jobs place; append = freed c place }

-- it has ended by a disk call that failed
abbrev pub barred_at : CoreView → ℕ → CoreView
barred_at c place = record c { jobs = remove c.jobs place; append = None; barred = true }

-- an action neither begins an append nor ends one, and is not the end
abbrev pub goes_plainly : Option Action → Bool
goes_plainly None = false
goes_plainly (Some WriteBody) = false
goes_plainly (Some SyncGate) = false
goes_plainly (Some End) = false
goes_plainly (Some action) = true

-- a job has made its next action
abbrev pub stepped_job : CoreJob → CoreJob
stepped_job j = record j { place = j.place + 1 }

-- a core with this job at a place
abbrev pub with_at : CoreView → ℕ → CoreJob → CoreView
with_at c place j = record c { jobs = slice_set c.jobs place j }

-- an audit has made its last ask, with these sums
abbrev pub judged : CoreJob → Sums → CoreJob
judged j sums = record j { place = j.place + 1; sums = sums }

-- the number that an append draws, or has drawn, of a job of which so many appends have not ended
abbrev pub number_as : Kept → ℕ → ℕ → Aim → ℕ
number_as t appends subject (ToPut name size) = if appends == 2 then id_after t else subject
number_as t appends subject ToAudit = if appends == 2 then t.next_audit else subject
number_as t appends subject aim = subject

-- the same of a running job
abbrev pub number_drawn : Setup → Kept → CoreJob → ℕ
number_drawn s t j = number_as t (appends_in s j) j.plan.subject j.plan.aim

-- a job has begun its append
abbrev pub drawn : CoreJob → ℕ → CoreJob
drawn j number = record j { plan = record j.plan { subject = number }; place = j.place + 1 }

-- a running job has pinned an object
abbrev pub is_pinned_in : List CoreJob → ℕ → Bool
is_pinned_in jobs object =
    list_any (λ (j : CoreJob). list_any (λ (file : Pinned). file.id == object) j.plan.pins) jobs

-- the object of a file, unless there is none or it is pinned
abbrev pub removable_in : List CoreJob → Option File → List ℕ
removable_in jobs None = []
removable_in jobs (Some file) = if is_pinned_in jobs file.id then [] else file.id ∷ []

-- the object that a job of which so many appends have not ended takes out of effect by this one
abbrev pub taken_as : Kept → List CoreJob → ℕ → Aim → List ℕ
taken_as t jobs appends (ToPut name size) =
    if appends == 2 then [] else removable_in jobs (find_file t.files name)
taken_as t jobs appends (ToDrop name) = removable_in jobs (find_file t.files name)
taken_as t jobs appends aim = []

-- the same of a running job
abbrev pub taken_by : Setup → Kept → List CoreJob → CoreJob → List ℕ
taken_by s t jobs j = taken_as t jobs (appends_in s j) j.plan.aim

-- a job whose append is done, and which takes these objects away
abbrev pub gated_by : List ℕ → CoreJob → CoreJob
gated_by older j = record j { plan = record j.plan { older = older }; place = j.place + 1 }

-- a job whose append is done
abbrev pub gated : Setup → Kept → List CoreJob → CoreJob → CoreJob
gated s t jobs j = gated_by (taken_by s t jobs j) j

-- the append of the job at a place is done, and its record in effect
pub record HasGated (c : CoreView) (place : ℕ) (j : CoreJob) (entry : Record) (rs : List Record)
    (new : CoreView) : Type 0 where
  pub table : IsFoldOf (entry ∷ rs) new.table
  pub others : new ≡ record c {
    table = new.table;
    end = c.end + (1 + record_size entry);
    jobs = slice_set c.jobs place (gated c.setup c.table c.jobs j);
    append = None;
  }
