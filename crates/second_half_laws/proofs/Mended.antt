-- The begin of an audit is a mark at the end of its repair.
use Rattle.second_half_laws.proofs.Words.{refl, sym, subst, ◌∙◌, inl, inr, arith, slice_get, each_get, next_audit, AuditJob, RepairJob, Job, job_of, Action, Store, End, append_actions, ask_actions, actions_by, actions_of, Answer, Audited, Repaired, Begin, Step, Begun, Ended, NoneBegan, State, IsStart, setup_in, Ends, next_action, Moment, now, IsRun, since, split_get, HasFailed, IsItsEnd, event_end, ended_of_kind, changes, all, run_back, audits, next_of_records, next_is_by, IsMark, IsCalmRun}
use Rattle.std.proofs.Common.{◌≡◌, ℕ, ◌≤◌, ◌<◌, List, [], ◌∷◌, ◌++◌, length, Some}
use Rattle.machine_defs.proofs.Numbers as num
use Rattle.second_half_laws.specs.Mended.{IsMended}
use Rattle.second_half_laws.proofs.Turns.{turns}
use Rattle.second_half_laws.proofs.Places.{of_kind, move_behind, store_within}
use Rattle.second_half_laws.proofs.EveryRun.{always, audits_below}
use Rattle.second_half_laws.proofs.InRuns.{in_calm, calm_marked, mark_stays}

-- ---- where an audit and a repair end

abbrev NotEnd : Action → Type 0
NotEnd End = ⊥
NotEnd action = Unit {0}

-- an audit ends behind its first append
audit_past : (w : State) (job : Job) → job.kind ≡ AuditJob → next_action w job ≡ Some End → 4 ≤ job.place
audit_past w job kind h = elim (split_get append_actions
    (ask_actions (setup_in w) job ++ (append_actions ++ End ∷ [])) job.place End listed) [
      | inl a ↦ absurd (each_get NotEnd append_actions job.place End (tt, (tt, (tt, (tt, tt)))) a.1)
      | inr b ↦ b.0
    ]
  where
    listed : slice_get (actions_by (setup_in w) job AuditJob) job.place ≡ Some End
    listed = cc (next_is_by w job)

-- a repair that ends has made each of its stores
repair_past : (w : State) (job : Job) → job.kind ≡ RepairJob → next_action w job ≡ Some End →
    (p i o s : ℕ) → slice_get (actions_of (setup_in w) job) p ≡ Some (Store i o s) → p < job.place
repair_past w job kind h p i o s at = (let late = move_behind (setup_in w) job job.place End kind
    (of_kind (setup_in w) job RepairJob job.place End kind listed) (λ z. z) in
    omega (arith, store_within (setup_in w) job p i o s kind at))
  where
    listed : slice_get (actions_by (setup_in w) job RepairJob) job.place ≡ Some End
    listed = cc (next_is_by w job)

-- ---- numbers of audits

-- the begin of an audit number that is drawn stays
audits_stay : (limit : ℕ) (start : State) → IsStart start → (later ms : List Moment) (number : ℕ) →
    IsRun limit start (later ++ ms) → number < next_audit (now start ms).records →
    ((now start (later ++ ms)).audits number ≡ (now start ms).audits number) ×
    (number < next_audit (now start (later ++ ms)).records)
audits_stay limit start clean [] ms number run below = (refl, below)
audits_stay limit start clean (m ∷ later) ms number run below = (let hs = later ++ ms in
    let p = audits_stay limit start clean later ms number run.2 below in
    let X = changes limit (length hs) (now start hs) m.event m.outcome m.state
    (all limit start clean hs run.2).numbers.idle run.1 in
    let grows = next_of_records audits (now start hs) m.state (num.facts audits limit start clean hs
    run.2).written X.records in (
      audits_below (turns (now start hs) limit (length hs) m.event m.outcome m.state run.1) number p.1 ∙ p.0,
      (omega (arith, p.1)),
    ))

-- ---- the mark

-- a calm run is one without its newest event
calm_before : (limit : ℕ) (start : State) (m : Moment) (ms : List Moment) → IsCalmRun limit start (m ∷ ms) →
    IsCalmRun limit start ms
calm_before limit start m ms h = record {
  clean = h.clean;
  tell = h.tell;
  run = h.run.2;
  calm = h.calm.1;
  scrubs = h.scrubs.1;
  found = h.found.1;
}

-- while a repair ends, the begin of its audit is a mark
at_end : (limit : ℕ) (start : State) (ms : List Moment) (k : ℕ) (job : Job) → IsCalmRun limit start ms →
    job_of (now start ms).jobs k ≡ Some job → job.kind ≡ RepairJob → next_action (now start ms) job ≡ Some End →
    IsMark start ms ((now start ms).audits job.subject)
at_end limit start ms k job h runs kind next_is = record {
  before = ((always limit start h.clean ms h.run).repair k job runs kind).1;
  clear = λ q f j s in_f l b bad.
      elim ((in_calm limit start ms h).audited.repair k job runs kind q f j s in_f l b bad) [
        | inl replaced ↦ inl replaced
        | inr x ↦ absurd (omega (
          arith,
          repair_past (now start ms) job kind next_is x.1.0 j f.id s x.1.2,
          x.1.1,
        ))
      ];
}

mended : (limit : ℕ) (start : State) (repairing between auditing older : List Moment) (r rb e b : Moment)
    (number undecided audit repair : ℕ) (counts : List ℕ) →
    IsCalmRun limit start (r ∷ (repairing ++ rb ∷ (between ++ e ∷ (auditing ++ b ∷ older)))) →
    b.event ≡ Begin AuditJob → b.outcome ≡ Begun audit → NoneBegan audit auditing → e.event ≡ Step audit →
    e.outcome ≡ Ended (Audited number undecided counts) → rb.event ≡ Begin RepairJob →
    rb.outcome ≡ Begun repair → NoneBegan repair repairing → r.event ≡ Step repair →
    r.outcome ≡ Ended (Repaired number) →
    IsMark start (r ∷ (repairing ++ rb ∷ (between ++ e ∷ (auditing ++ b ∷ older)))) (length older)
mended limit start repairing between auditing older r rb e b number undecided audit repair counts h b_event
    b_begun none e_step e_over rb_event rb_begun none_repair r_step r_over =
    (let old = auditing ++ b ∷ older in let mid = between ++ e ∷ old in let rest = repairing ++ rb ∷ mid in
    let run_rb = run_back limit start repairing (rb ∷ mid) h.run.2 in
    let run_e = run_back limit start between (e ∷ old) run_rb.2 in
    let x = ended_of_kind limit start auditing older e b AuditJob audit (Audited number undecided counts)
    h.clean run_e (inl b_event) b_begun none e_step e_over in
    let y = ended_of_kind limit start repairing mid r rb RepairJob repair (Repaired number) h.clean h.run
    (inl rb_event) rb_begun none_repair r_step r_over in
    let x_end = ends limit start e old x.0 (Audited number undecided counts) (λ z. z) run_e audit x.1 x.2
    e_step e_over in
    let y_end = ends limit start r rest y.0 (Repaired number) (λ z. z) h.run repair y.1 y.2 r_step r_over in
    let x_sums = subst (λ kd. Ends (now start old) x.0 kd (Audited number undecided counts)) x.3 x_end.1 in
    let y_number = subst (λ kd. Ends (now start rest) y.0 kd (Repaired number)) y.3 y_end.1 in
    let past = audit_past (now start old) x.0 x.3 x_end.0 in
    let kept = (always limit start h.clean old run_e.2).audit_kept audit x.0 x.1 x.3 past in
    let below = (num.facts audits limit start h.clean old run_e.2).below audit x.0 x.1 (cc, past) in
    let s = audits_stay limit start h.clean (e ∷ []) old x.0.subject run_e below in
    let t = audits_stay limit start h.clean between (e ∷ old) x.0.subject run_rb.2 s.1 in
    let u = audits_stay limit start h.clean (rb ∷ []) mid x.0.subject run_rb t.1 in
    let v = audits_stay limit start h.clean repairing (rb ∷ mid) x.0.subject h.run.2 u.1 in
    let subject : y.0.subject ≡ x.0.subject = sym y_number ∙ x_sums.0 in
    let is : (now start rest).audits y.0.subject ≡ length older = cc in
    let calm = calm_before limit start r rest h in
    let moment = subst (IsMark start rest) is (at_end limit start rest repair y.0 calm y.1 y.3 y_end.0) in
    mark_stays limit (since start) start r rest (calm_marked limit start rest calm) h.scrubs.1 h.run
    (length older) moment)
  where
    ends : (limit : ℕ) (start : State) (m : Moment) (ms : List Moment) (job : Job) (how : Answer) →
        (HasFailed how → ⊥) → IsRun limit start (m ∷ ms) → (k : ℕ) → job_of (now start ms).jobs k ≡ Some job →
        job.number ≡ k → m.event ≡ Step k → m.outcome ≡ Ended how → IsItsEnd (now start ms) job how
    ends limit start m ms job how good run k runs number event over =
        event_end limit (length ms) (now start ms) m.event m.outcome m.state job how good (cc) over (cc) run.1

-- at the end of a repair the begin of its audit is a mark
pub mended_mark : (limit : ℕ) (start : State) (older ms : List Moment) → IsCalmRun limit start ms →
    IsMended older ms → IsMark start ms (length older)
mended_mark limit start older ms h M = subst (λ hs. IsMark start hs (length older)) (sym M.split)
    (mended limit start M.repairing M.between M.auditing older M.repair_end M.repair_begin M.audit_end
    M.audit_begin M.number M.undecided M.audit M.repair M.counts (subst (IsCalmRun limit start) M.split h)
    M.audit_event M.audit_begun M.none_audit M.audit_step M.audited M.repair_event M.repair_begun M.none_repair
    M.repair_step M.repaired)
