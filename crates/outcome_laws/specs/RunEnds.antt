-- How repairs and audits end in a run.
--
--   NoneRose begun new                  == no count of the disk or of a provider rose between two states
--   EndsRepair begun old new answer     == from the state at its begin, by a step between the other two, a
--                                          repair ends so
--   TellsAudit start older ms number undecided counts
--                                       == an audit that began behind the older moments and runs drew this
--                                          number, made its asks of the files in effect then, and has these
--                                          sums of what they gave
--   EndsAudit start older ms new answer == such an audit ends so, by a step to this state
use Rattle.std.specs.Prelude.{◌≡◌, ℕ, ◌<◌, List, length, Some}
use Rattle.record_defs.specs.Table.{Due, due_of}
use Rattle.device_defs.specs.Faults.{Rose}
use Rattle.machine_defs.specs.Jobs.{AuditJob, Job, job_of}
use Rattle.machine_defs.specs.Answers.{Answer, Audited, Repaired, Lost, ProviderFault, DiskFault, Memory}
use Rattle.machine_defs.specs.States.{State, setup_in}
use Rattle.machine_defs.specs.Begins.{pinned_for}
use Rattle.machine_defs.specs.Runs.{Moment, now}
use Rattle.machine_defs.specs.JobEnds.{StoreRose}
use Rattle.second_half_laws.specs.Damage.{RoseSince}
use Rattle.second_half_laws.specs.Whole.{AuditIsWhole}

-- no count of the disk or of a provider rose
pub record NoneRose (begun new : State) : Type 0 where
  pub disk : Rose begun.disk_faults new.disk_faults → ⊥
  pub stores : (provider : ℕ) → StoreRose begun new provider → ⊥
  pub others : (provider : ℕ) → RoseSince begun new provider → ⊥

-- a repair says the number of the audit that was due; or a count rose, or it found no memory
abbrev pub EndsRepair : State → State → State → Answer → Type 0
EndsRepair begun old new (Repaired number) =
    (due : Due) × (due_of begun.records ≡ Some due) × (number ≡ due.number)
EndsRepair begun old new (Lost stripe row) =
    (provider : ℕ) × (provider < (setup_in old).n) × RoseSince begun new provider
EndsRepair begun old new (ProviderFault provider) = StoreRose old new provider
EndsRepair begun old new DiskFault = Rose old.disk_faults new.disk_faults
EndsRepair begun old new Memory = Unit {0}
EndsRepair begun old new answer = ⊥

-- a running audit drew this number, made its asks, and has these sums of what they gave
pub record TellsAudit (start : State) (older ms : List Moment) (number undecided : ℕ)
    (counts : List ℕ) : Type 0 where
  pub job : Job
  pub runs : job_of (now start ms).jobs job.number ≡ Some job
  pub begun : job.begun ≡ length older
  pub drawn : (now start ms).audits number ≡ length older
  pub files : job.pinned ≡ pinned_for (now start older) AuditJob
  pub whole : AuditIsWhole start ms job number undecided counts

-- an audit says its number and its sums; or the count of the disk rose, or it found no memory
abbrev pub EndsAudit : State → List Moment → List Moment → State → Answer → Type 0
EndsAudit start older ms new (Audited number undecided counts) =
    TellsAudit start older ms number undecided counts
EndsAudit start older ms new DiskFault = Rose (now start ms).disk_faults new.disk_faults
EndsAudit start older ms new Memory = Unit {0}
EndsAudit start older ms new answer = ⊥
