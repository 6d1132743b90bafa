-- What is reserved for running jobs: room in the journal, and room in the table.
--
--   sizes_of v n wish   == the sizes of the records that a job of this wish appends, in order, each with its
--                          gate, for n providers, in a journal of version v
--   room_behind v n w k == the room that its records still need of which so many appends have not ended
--   reserved_of v s j   == the same of a running job
--   starts_of s j       == 1 for a put whose PutStart is not yet in effect, so that it has both its appends
--   Reserves c          == the journal has room for the records of all jobs, and the table for all their
--                          PutStarts
use Rattle.std.specs.Prelude.{ℕ, ◌+◌, ◌≤◌, ◌==◌, List, sum_by, if◌then◌else◌}
use Rattle.record_defs.specs.Records.{Setup, largest_journal}
use Rattle.machine_defs.specs.Jobs.{Aim, ToPut}
use Rattle.machine_defs.specs.Space.{append_sizes, room_left}
use Rattle.vault_core.specs.declared.wish.Wish.{Wish}
use Rattle.vault_core.specs.Wished.{aim_of_wish}
use Rattle.vault_core.specs.View.{CoreJob, CoreView, of_providers, appends_in}

-- the sizes of the records that a job appends, in order, each with its gate
abbrev pub sizes_of : ℕ → ℕ → Wish → List ℕ
sizes_of v n w = append_sizes v (of_providers n) (aim_of_wish w)

-- the room that the records of a job still need of which so many appends have not ended
abbrev pub room_behind : ℕ → ℕ → Wish → ℕ → ℕ
room_behind v n w appends = room_left v (of_providers n) (aim_of_wish w) appends

-- the room that the records of a running job still need
abbrev pub reserved_of : ℕ → Setup → CoreJob → ℕ
reserved_of v s j = room_left v s j.plan.aim (appends_in s j)

-- 1 for a put that has both its appends before it
abbrev pub starts_by : Aim → ℕ → ℕ
starts_by (ToPut name size) appends = if appends == 2 then 1 else 0
starts_by aim appends = 0

-- the same of a running job
abbrev pub starts_of : Setup → CoreJob → ℕ
starts_of s j = starts_by j.plan.aim (appends_in s j)

-- the journal has room for the records of all jobs, and the table for all their PutStarts
pub record Reserves (c : CoreView) : Type 0 where
  pub room : c.end + sum_by (reserved_of c.table.version c.setup) c.jobs ≤ largest_journal
  pub spare : sum_by (starts_of c.setup) c.jobs ≤ c.table.spare
