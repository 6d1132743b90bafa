-- Why no job of a wish begins, by what a contract sees of a core.
--
--   sight_in c              == what the refusals of a begin see of a core: nothing runs alone
--   aims_kept jobs          == what jobs as they are kept are for, in the order of their begins
--   taken_names files aims  == the names of files and of puts among jobs, each once
--   refusal_in c w          == the first refusal of a wish
use Rattle.std.specs.Prelude.{ℕ, ◌+◌, false, List, map, sum_by, Option}
use Rattle.record_defs.specs.Table.{File}
use Rattle.machine_defs.specs.Jobs.{Aim}
use Rattle.machine_defs.specs.Refusals.{Refusal, first_refusal}
use Rattle.machine_defs.specs.Sights.{Sight, names_in, with_puts, causes}
use Rattle.vault_table.specs.Values.{id_after}
use Rattle.vault_core.specs.declared.wish.Wish.{Wish}
use Rattle.vault_core.specs.declared.job.Job.{Job}
use Rattle.vault_core.specs.Wished.{aim_of_wish, profile_named}
use Rattle.vault_core.specs.View.{CoreJob, CoreView}
use Rattle.vault_core.specs.Reserves.{reserved_of}

-- what running jobs are for
abbrev pub aims_in : List CoreJob → List Aim
aims_in jobs = map (λ (j : CoreJob). j.plan.aim) jobs

-- what the refusals of a begin see of a core
abbrev pub sight_in : CoreView → Sight
sight_in c = record {
  is_barred = c.barred;
  is_alone = false;
  aims = aims_in c.jobs;
  files = c.table.files;
  due = c.table.due;
  version = c.table.version;
  setup = c.setup;
  used = c.end + sum_by (reserved_of c.table.version c.setup) c.jobs;
  next_id = id_after c.table;
  next_audit = c.table.next_audit;
}

-- what jobs as they are kept are for
abbrev pub aims_kept : List Job → List Aim
aims_kept jobs = map (λ (j : Job). aim_of_wish j.wish) jobs

-- the names of files and of the puts among jobs, each once
abbrev pub taken_names : List File → List Aim → List (List ℕ)
taken_names files aims = with_puts (names_in files) aims

-- the first refusal of a wish
abbrev pub refusal_in : CoreView → Wish → Option Refusal
refusal_in c w = first_refusal (causes 8 (sight_in c) (aim_of_wish w) (profile_named w))
