-- A vault as a start opens it.
--
--   IsStarted v read holds faults first
--     == it was opened over records that the disk, where it tells, reads; and now the disk holds this, and counts so
--        many faults
use Rattle.std.specs.Prelude.{◌≡◌, ℕ, List, Option}
use Rattle.device_defs.specs.Cells.{Cells}
use Rattle.device_defs.specs.Providers.{Provider}
use Rattle.record_defs.specs.Records.{Record}
use Rattle.record_defs.specs.Areas.{Area}
use Rattle.machine_defs.specs.States.{State}
use Rattle.opening_defs.specs.Journals.{IsRead}
use Rattle.opening_defs.specs.Opened.{IsJustOpened}
use Rattle.vault_open.specs.Devices.{devices}
use Rattle.vault.specs.declared.vault.Vault.{Vault}
use Rattle.vault.specs.Seen.{next_job_of}
use Rattle.vault.specs.Stands.{Stands, Carries}
use Rattle.vault.specs.Streams.{IsStreamless}

-- a vault was opened over the records that were read
pub record IsStarted (v : Vault) (read holds : Option Cells) (faults first : ℕ) : Type 0 where
  pub area : Area
  pub records : List Record
  pub is_read : IsRead read area records
  -- it stands for each state that was just opened over them
  pub stands : (w : State) (providers : List Provider) → IsJustOpened w area records first faults providers
      → Stands v (devices holds faults providers) w
  -- the disk carries it
  pub carries : Carries v holds
  -- its jobs are numbered from this number on
  pub number : next_job_of v ≡ first
  -- no stream of it is open
  pub streams : IsStreamless v
