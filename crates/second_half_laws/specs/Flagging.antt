-- An audit that flags who was damaged, told by events and outcomes.
--
--   IsAudit kind                == the kind of an audit
--   FindsAll tolerance ps ms    == of these moments one alone began an audit, and it ended well: its counts flag
--                                  each of these providers
use Rattle.std.specs.Prelude.{◌≡◌, ℕ, true, List, ◌∷◌, ◌++◌}
use Rattle.algebra_laws.specs.Lists.{In}
use Rattle.column_defs.specs.Verdicts.{is_flagged}
use Rattle.machine_defs.specs.Jobs.{Kind, AuditJob}
use Rattle.machine_defs.specs.Answers.{Audited}
use Rattle.machine_defs.specs.Events.{Begin, Step, Begun, Ended}
use Rattle.machine_defs.specs.Runs.{Moment}
use Rattle.machine_defs.specs.Began.{NoneBegan}
use Rattle.machine_defs.specs.Untouched.{NoneBeganFor}

-- the kind of an audit
abbrev pub IsAudit : Kind → Type 0
IsAudit AuditJob = Unit {0}
IsAudit kind = ⊥

-- one audit began, and ended with counts that flag each of these providers
pub record FindsAll (tolerance : ℕ) (ps : List ℕ) (ms : List Moment) : Type 0 where
  pub later : List Moment
  pub end : Moment
  pub auditing : List Moment
  pub begin : Moment
  pub older : List Moment
  pub split : ms ≡ later ++ end ∷ (auditing ++ begin ∷ older)
  pub audit : ℕ
  pub number : ℕ
  pub undecided : ℕ
  pub counts : List ℕ
  pub begin_event : begin.event ≡ Begin AuditJob
  pub begun : begin.outcome ≡ Begun audit
  pub end_event : end.event ≡ Step audit
  pub ended : end.outcome ≡ Ended (Audited number undecided counts)
  pub none_numbered : NoneBegan audit auditing
  pub none_before : NoneBeganFor IsAudit older
  pub none_beside : NoneBeganFor IsAudit auditing
  pub none_later : NoneBeganFor IsAudit later
  pub flags : (j : ℕ) → In j ps → is_flagged tolerance counts j ≡ true
