-- How a step ends a job, by what the job is for.
--
--   EndsSo old new kind answer  == a job of this kind may end with this answer, by a step from the old state to
--                                  the new one; a fault has its cause, a count that rose in it
use Rattle.std.specs.Prelude.{ℕ}
use Rattle.device_defs.specs.Faults.{Rose}
use Rattle.machine_defs.specs.Jobs.{Kind, PutJob, GetJob, DropJob, AuditJob, RepairJob, UpgradeJob}
use Rattle.machine_defs.specs.Answers.{Answer, Put, Got, Dropped, Audited, Repaired, Upgraded, Lost, ProviderFault, DiskFault, Memory}
use Rattle.machine_defs.specs.States.{State}

-- the count of failed stores of a provider rose
abbrev pub StoreRose : State → State → ℕ → Type 0
StoreRose old new j = Rose (old.providers j).store_faults (new.providers j).store_faults

-- a job ends with what it was for; a get or a repair may be lost, a put or a repair may meet a store that
-- failed, and all but a get a disk that failed, or want of memory
abbrev pub EndsSo : State → State → Kind → Answer → Type 0
EndsSo old new (PutJob name bytes) Put = Unit {0}
EndsSo old new (PutJob name bytes) (ProviderFault j) = StoreRose old new j
EndsSo old new (GetJob name) (Got bytes) = Unit {0}
EndsSo old new (GetJob name) (Lost stripe row) = Unit {0}
EndsSo old new (GetJob name) answer = ⊥
EndsSo old new (DropJob name) Dropped = Unit {0}
EndsSo old new AuditJob (Audited number undecided counts) = Unit {0}
EndsSo old new RepairJob (Repaired number) = Unit {0}
EndsSo old new RepairJob (Lost stripe row) = Unit {0}
EndsSo old new RepairJob (ProviderFault j) = StoreRose old new j
EndsSo old new UpgradeJob Upgraded = Unit {0}
EndsSo old new kind DiskFault = Rose old.disk_faults new.disk_faults
EndsSo old new kind Memory = Unit {0}
EndsSo old new kind answer = ⊥
