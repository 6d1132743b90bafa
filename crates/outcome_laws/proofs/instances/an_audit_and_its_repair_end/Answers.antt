use Rattle.outcome_laws.proofs.Words.{List, ◌∷◌, ◌++◌, refl, subst, Audited, Repaired, set_up, IsCalmRun, IsMended, run_back, runs_shape}
use Rattle.damage_run.specs.Words.{setup_in, Moment, IsRun, now}
use Rattle.outcome_laws.proofs.instances.an_audit_and_its_repair_end.Goals as goal

-- up to the audit's end
to_audit : (older ms : List Moment) → (h : IsMended older ms) → IsRun 8 set_up ms →
    IsRun 8 set_up (h.audit_end ∷ (h.auditing ++ h.audit_begin ∷ older))
to_audit older ms h run = (let tail = h.audit_end ∷ (h.auditing ++ h.audit_begin ∷ older) in
    run_back 8 set_up h.between tail
    (run_back 8 set_up h.repairing (h.repair_begin ∷ (h.between ++ tail))
    (subst (IsRun 8 set_up) h.split run).2).2)

pub returns : goal.returns
returns c = record {
  audit = λ later recent older h. (let q = h.mended in
      c.audits_tell_their_sums.ensures.ends 8 set_up q.auditing older q.audit_end q.audit_begin q.audit
      (Audited q.number q.undecided q.counts) h.calm.clean (to_audit older (recent ++ older) q h.calm.run)
      q.audit_event q.audit_begun q.none_audit q.audit_step q.audited);
  one = λ later recent older h t sums has. (let q = h.mended in
      let tail = q.auditing ++ q.audit_begin ∷ older in
      let run = (to_audit older (recent ++ older) q h.calm.run).2 in
      c.audits_tell_their_sums.ensures.one (setup_in (now set_up tail)) t.job t.job sums
      (record { counts = q.counts; undecided = q.undecided })
      (runs_shape 8 set_up tail h.calm.clean run t.job.number t.job t.runs) refl refl refl has t.whole.sums);
  repair = λ later recent older h. (let q = h.mended in
      c.calm_repairs_end_well.ensures.calm 8 set_up q.repairing
      (q.between ++ q.audit_end ∷ (q.auditing ++ q.audit_begin ∷ older)) q.repair_end q.repair_begin q.repair
      (Repaired q.number) (subst (IsCalmRun 8 set_up) q.split h.calm) q.repair_event q.repair_begun
      q.none_repair q.repair_step q.repaired);
}
