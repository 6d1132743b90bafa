-- Why no vault is opened, and why no store is set up.
--
--   IsStartFault bytes fault      == the causes for which no vault is opened
--   LiesInJournal fault           == a cause that lies in what the disk reads
--   IsInitFault bytes setup fault == the causes for which a store is not set up
--   IsNoWrite fault               == an answer of init for which nothing is written
use Rattle.std.specs.Prelude.{◌≡◌, ℕ, ◌<◌, false, List, length}
use Rattle.record_defs.specs.Records.{Setup, is_setup}
use Rattle.record_defs.specs.Reading.{HasNoSetup}
use Rattle.opening_defs.specs.Journals.{IsBadStart, IsBadInit, IsSetUpAlready}
use Rattle.vault_open.specs.declared.fault.InitFault.{InitFault}
use Rattle.vault_open.specs.declared.fault.InitFault.TheVariants as init_fault
use Rattle.vault_open.specs.declared.fault.StartFault.{StartFault}
use Rattle.vault_open.specs.declared.fault.StartFault.TheVariants as start_fault

-- why no vault is opened over these bytes
abbrev pub IsStartFault : List ℕ → StartFault → Type 0
IsStartFault bytes start_fault.NotSetUp = HasNoSetup bytes
IsStartFault bytes (start_fault.BadJournal at) = (9 < length bytes) × IsBadStart bytes at
IsStartFault bytes start_fault.DiskFault = Unit {0}
IsStartFault bytes start_fault.Memory = Unit {0}

-- a cause that lies in what the disk reads
abbrev pub LiesInJournal : StartFault → Type 0
LiesInJournal start_fault.NotSetUp = Unit {0}
LiesInJournal (start_fault.BadJournal at) = Unit {0}
LiesInJournal start_fault.DiskFault = ⊥
LiesInJournal start_fault.Memory = ⊥

-- why a store is not set up on a disk of which these bytes are looked at
abbrev pub IsInitFault : List ℕ → Setup → InitFault → Type 0
IsInitFault bytes s init_fault.BadSetup = is_setup s ≡ false
IsInitFault bytes s (init_fault.BadJournal at) = (9 < length bytes) × IsBadInit bytes at
IsInitFault bytes s init_fault.Already = (9 < length bytes) × IsSetUpAlready bytes
IsInitFault bytes s init_fault.DiskFault = Unit {0}
IsInitFault bytes s init_fault.Memory = Unit {0}

-- an answer for which nothing is written
abbrev pub IsNoWrite : InitFault → Type 0
IsNoWrite init_fault.BadSetup = Unit {0}
IsNoWrite (init_fault.BadJournal at) = Unit {0}
IsNoWrite init_fault.Already = Unit {0}
IsNoWrite init_fault.DiskFault = ⊥
IsNoWrite init_fault.Memory = ⊥
