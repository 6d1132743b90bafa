-- How an audit ends in a run.
use Rattle.outcome_laws.proofs.Words.{◌≡◌, ℕ, ◌+◌, ◌-◌, ◌≤◌, List, [], ◌∷◌, ◌++◌, length, Some, ap, sym, subst, ◌∙◌, inl, inr, arith, AuditJob, Answered, Job, job_of, Action, Ask, End, append_actions, ask_actions, Answer, Begin, Step, Begun, Ended, IsStart, pinned_for, profiled, rounds_of, answer_given, HasSums, Ends, next_action, NoneBegan, EndsSo, first_behind, contains_in, job_ends_so, ended_of_kind, event_end, always, asks_all, ask_at, EndsAudit}
use Rattle.algebra_laws.proofs.Each.{each_get}
use Rattle.machine_defs.specs.Answers as answer
use Rattle.machine_defs.specs.States.{State, setup_in}
use Rattle.machine_defs.specs.Runs.{Moment, now, first_moments, IsRun}
use Rattle.machine_defs.proofs.ActionLists.{split_get}
use Rattle.machine_defs.proofs.Numbers.{next_by, next_is_by}
use Rattle.second_half_laws.specs.Whole.{AuditIsWhole}
use Rattle.second_half_laws.proofs.MadeFacts as made
use Rattle.outcome_laws.proofs.Begun.{as_begun}

-- ---- an audit at its end has made its asks

abbrev NoEnd : Action → Type 0
NoEnd End = ⊥
NoEnd action = Unit {0}

past_asks : (w : State) (job : Job) → job.kind ≡ AuditJob → next_action w job ≡ Some End →
    4 + length (ask_actions (setup_in w) job) ≤ job.place
past_asks w job kind next_is =
    elim (split_get append_actions (ask_actions (setup_in w) job ++ (append_actions ++ End ∷ []))
    job.place End
    (sym (next_is_by w job ∙ ap (λ kd. next_by w job kd job.place) kind) ∙ next_is)) [
      | inl h ↦ absurd (each_get NoEnd append_actions job.place End (tt, (tt, (tt, (tt, tt)))) h.1)
      | inr h ↦ elim (split_get (ask_actions (setup_in w) job) (append_actions ++ End ∷ [])
          (job.place - 4) End h.1) [
            | inl a ↦ absurd (each_get NoEnd (ask_actions (setup_in w) job) (job.place - 4) End
                (asks_all (setup_in w) job NoEnd (λ j o r. tt)) a.1)
            | inr b ↦ (let l = h.0 in let k = b.0 in omega (arith, l, k))
          ]
    ]

module _ (limit : ℕ) (start : State) (m : Moment) (ms : List Moment) (clean : IsStart start)
    (run : IsRun limit start (m ∷ ms)) (job : Job)
    (runs : job_of (now start ms).jobs job.number ≡ Some job) (kind : job.kind ≡ AuditJob)
    (event : m.event ≡ Step job.number) where
  whole : (number undecided : ℕ) (counts : List ℕ) →
      4 + length (ask_actions (setup_in (now start ms)) job) ≤ job.place → number ≡ job.subject →
      HasSums (setup_in (now start ms)) job (record { counts = counts; undecided = undecided }) →
      AuditIsWhole start ms job number undecided counts
  whole number undecided counts late is sums = record {
    kind = kind;
    subject = sym is;
    asked = λ file j round in_f k in_r. (let F = made.facts limit start clean ms run.2 in
        let at = ask_at (setup_in (now start ms)) job file j round kind (contains_in job.pinned file in_f) k
        (contains_in (rounds_of (profiled (setup_in (now start ms)) file.profile) (length file.bytes)) round
        in_r) in
        let g = (F.made job.number job at.0 (Ask j file.id round) runs
        (let l = at.1 in omega (arith, l, late)) at.2).1 in
        F.came job.number job (Answered j file.id round (answer_given job.given file.id round j)) runs
        (made.given_answer job.given j file.id round g.0 g.1));
    sums = sums;
  }

  audit_ends : (older : List Moment) (how : Answer) → job.begun ≡ length older →
      first_moments job.begun ms ≡ older → m.outcome ≡ Ended how →
      EndsSo (now start ms) m.state AuditJob how → EndsAudit start older ms m.state how
  audit_ends older (answer.Audited number undecided counts) begun first outcome so =
      (let e = event_end limit (length ms) (now start ms) m.event m.outcome m.state job
      (answer.Audited number undecided counts) (λ z. z) event outcome runs run.1 in
      let g : Ends (now start ms) job AuditJob (answer.Audited number undecided counts) =
      subst (λ kd. Ends (now start ms) job kd (answer.Audited number undecided counts)) kind e.1 in
      let late = past_asks (now start ms) job kind e.0 in
      let b = as_begun limit start clean ms run.2 job.number job runs in
      record {
        job = job;
        runs = runs;
        begun = begun;
        drawn = ap (now start ms).audits g.0
            ∙ ((always limit start clean ms run.2).audit_kept job.number job runs kind
            (omega (arith, late)) ∙ begun);
        files = b.files ∙ (ap (λ hs. pinned_for (now start hs) job.kind) first
            ∙ ap (pinned_for (now start older)) kind);
        whole = whole number undecided counts late g.0 g.1;
      })
  audit_ends older answer.DiskFault begun first outcome so = so
  audit_ends older answer.Memory begun first outcome so = tt
  audit_ends older how begun first outcome so = absurd so

-- so an audit ends, told by events
pub audits_end : (limit : ℕ) (start : State) (between older : List Moment) (m b : Moment) (number : ℕ)
    (how : Answer) → IsStart start → IsRun limit start (m ∷ (between ++ b ∷ older)) →
    b.event ≡ Begin AuditJob → b.outcome ≡ Begun number → NoneBegan number between →
    m.event ≡ Step number → m.outcome ≡ Ended how →
    EndsAudit start older (between ++ b ∷ older) m.state how
audits_end limit start between older m b number how clean run on begun none event outcome =
    (let ms = between ++ b ∷ older in
    let q = ended_of_kind limit start between older m b AuditJob number how clean run (inl on) begun none
    event outcome in
    let job = q.0 in
    let runs : job_of (now start ms).jobs job.number ≡ Some job = ap (job_of (now start ms).jobs) q.2 ∙ q.1 in
    audit_ends limit start m ms clean run job runs q.3 (event ∙ ap Step (sym q.2)) older how q.4
    (ap (λ n. first_moments n ms) q.4 ∙ first_behind between b older) outcome
    (subst (λ kd. EndsSo (now start ms) m.state kd how) q.3
    (job_ends_so limit start m ms number job how clean run q.1 event outcome)))
