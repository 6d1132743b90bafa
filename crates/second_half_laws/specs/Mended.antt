-- An audit and the repair of its number, told by events and outcomes.
--
--   IsMended older ms  == behind the older moments an audit began that ended well, and a repair of its number
--                         ended well by the newest moment
use Rattle.std.specs.Prelude.{◌≡◌, ℕ, List, ◌∷◌, ◌++◌}
use Rattle.machine_defs.specs.Jobs.{AuditJob, RepairJob}
use Rattle.machine_defs.specs.Answers.{Audited, Repaired}
use Rattle.machine_defs.specs.Events.{Begin, Step, Begun, Ended}
use Rattle.machine_defs.specs.Runs.{Moment}
use Rattle.machine_defs.specs.Began.{NoneBegan}

-- an audit that began behind the older moments, and the repair that ends with the newest
pub record IsMended (older ms : List Moment) : Type 0 where
  pub repair_end : Moment
  pub repairing : List Moment
  pub repair_begin : Moment
  pub between : List Moment
  pub audit_end : Moment
  pub auditing : List Moment
  pub audit_begin : Moment
  pub split : ms ≡ repair_end
      ∷ (repairing ++ repair_begin ∷ (between ++ audit_end ∷ (auditing ++ audit_begin ∷ older)))
  pub number : ℕ
  pub undecided : ℕ
  pub counts : List ℕ
  pub audit : ℕ
  pub audit_event : audit_begin.event ≡ Begin AuditJob
  pub audit_begun : audit_begin.outcome ≡ Begun audit
  pub none_audit : NoneBegan audit auditing
  pub audit_step : audit_end.event ≡ Step audit
  pub audited : audit_end.outcome ≡ Ended (Audited number undecided counts)
  pub repair : ℕ
  pub repair_event : repair_begin.event ≡ Begin RepairJob
  pub repair_begun : repair_begin.outcome ≡ Begun repair
  pub none_repair : NoneBegan repair repairing
  pub repair_step : repair_end.event ≡ Step repair
  pub repaired : repair_end.outcome ≡ Ended (Repaired number)
