-- What it means that a vault was just opened, and why none is. Records have the newest first.
--
--   AreRecords area records            == records that a start reads in an area: there is one, they are in the
--                                         grammar, each may follow those before it, and the text has room
--   IsReadFor told area records handed == the disk, where it tells, reads these records in this area, and
--                                         enough providers are handed in
--   IsFreshOver v area records holds faults
--                                      == a vault that was just opened over these records and this disk: it
--                                         stands for each state that was, whatever providers are handed in
--   IsFreshFor v holds faults handed   == the same over some records, with enough providers
--   unopened_of fault                  == why no vault is opened, where a start gave this fault
--   IsUnopened told handed why         == the cause for which no vault is opened
--   LiesInStore why                    == a cause that lies in what the disk reads, or in how many providers are
--                                         handed in
--   HasReadStore result                == an opening has judged what the disk reads
use Rattle.std.specs.Prelude.{◌≡◌, ◌≢◌, ℕ, ◌<◌, ◌≤◌, IsTrue, IfSome, List, [], length, Option, Result, Ok, Err}
use Rattle.std.specs.List.{list_all}
use Rattle.device_defs.specs.Cells.{Cells}
use Rattle.device_defs.specs.Providers.{Provider}
use Rattle.record_defs.specs.Records.{Record, is_in_grammar, largest_journal}
use Rattle.record_defs.specs.Areas.{Area, end_in}
use Rattle.record_defs.specs.Acceptance.{AreAccepted}
use Rattle.record_defs.specs.Reading.{HasNoSetup}
use Rattle.machine_defs.specs.States.{State}
use Rattle.opening_defs.specs.Journals.{journal_read, IsRead, IsBadStart}
use Rattle.command_defs.specs.Opens.{setup_in_effect}
use Rattle.vault_table.specs.Values.{IsFoldOf}
use Rattle.vault_open.specs.declared.fault.StartFault.{StartFault}
use Rattle.vault_open.specs.declared.fault.StartFault.TheVariants as start_fault
use Rattle.vault.specs.declared.vault.Vault.{Vault}
use Rattle.vault_open.specs.Devices.{devices}
use Rattle.vault.specs.Seen.{vault_setup, table_of, next_job_of, provider_count}
use Rattle.vault.specs.Stands.{Stands}
use Rattle.vault.specs.Streams.{IsStreamless}
use Rattle.opening_defs.specs.Opened.{IsJustOpened}
use Rattle.command_jobs.specs.declared.open.Unopened.{Unopened}
use Rattle.command_jobs.specs.declared.open.Unopened.TheVariants as unopened

-- records that a start reads
pub record AreRecords (area : Area) (records : List Record) : Type 0 where
  pub some : records ≢ []
  pub in_grammar : IsTrue (list_all is_in_grammar records)
  pub accepted : AreAccepted records
  pub room : end_in area records ≤ largest_journal

-- the disk reads these records, and enough providers are handed in
pub record IsReadFor (told : Option Cells) (area : Area) (records : List Record) (handed : ℕ) : Type 0 where
  pub read : IsRead told area records
  pub enough : (setup_in_effect records).n ≤ handed

-- a vault that was just opened over these records and this disk
pub record IsFreshOver (v : Vault) (area : Area) (records : List Record) (holds : Option Cells)
    (faults : ℕ) : Type 0 where
  pub read : AreRecords area records
  pub stands : (w : State) (providers : List Provider) → IsJustOpened w area records 1 faults providers
      → Stands v (devices holds faults providers) w
  pub providers : provider_count v ≡ (setup_in_effect records).n
  pub tolerance : (vault_setup v).tolerance ≡ (setup_in_effect records).tolerance
  pub table : IsFoldOf records (table_of v)
  pub next_job : next_job_of v ≡ 1
  pub streams : IsStreamless v

-- a vault that was just opened over this disk, with enough providers
pub record IsFreshFor (v : Vault) (holds : Option Cells) (faults handed : ℕ) : Type 0 where
  pub area : Area
  pub records : List Record
  pub fresh : IsFreshOver v area records holds faults
  pub enough : (setup_in_effect records).n ≤ handed

-- why no vault is opened, where a start gave this fault
abbrev pub unopened_of : StartFault → Unopened
unopened_of start_fault.DiskFault = unopened.DiskFault
unopened_of start_fault.NotSetUp = unopened.NotSetUp
unopened_of (start_fault.BadJournal at) = unopened.BadJournal at
unopened_of start_fault.Memory = unopened.Memory

-- the cause for which no vault is opened; that of a fault of the disk is its count
abbrev pub IsUnopened : Option Cells → ℕ → Unopened → Type 0
IsUnopened told handed unopened.NotSetUp = IfSome told (λ cells. HasNoSetup (journal_read cells))
IsUnopened told handed (unopened.BadJournal at) =
    IfSome told (λ cells. (9 < length (journal_read cells)) × IsBadStart (journal_read cells) at)
IsUnopened told handed unopened.TooFewProviders =
    (area : Area) × (records : List Record) × IsRead told area records × (handed < (setup_in_effect records).n)
IsUnopened told handed unopened.DiskFault = Unit {0}
IsUnopened told handed unopened.Memory = Unit {0}

-- a cause that lies in what the disk reads, or in how many providers are handed in
abbrev pub LiesInStore : Unopened → Type 0
LiesInStore unopened.NotSetUp = Unit {0}
LiesInStore (unopened.BadJournal at) = Unit {0}
LiesInStore unopened.TooFewProviders = Unit {0}
LiesInStore unopened.DiskFault = ⊥
LiesInStore unopened.Memory = ⊥

-- an opening has judged what the disk reads: it has opened a vault, or refuses it for what lies in the store
abbrev pub HasReadStore : {T : Type 0} → Result T Unopened → Type 0
HasReadStore (Ok vault) = Unit {0}
HasReadStore (Err why) = LiesInStore why
