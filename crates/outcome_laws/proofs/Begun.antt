-- A running job works on the files of its begin, and a repair has the number of the audit that was due then.
use Rattle.outcome_laws.proofs.Words.{◌≡◌, ℕ, List, [], ◌∷◌, length, Some, None, refl, ap, sym, subst, ◌∙◌, arith, Due, due_of, RepairJob, Job, job_of, IsStart, refusal_of_begin, pinned_for, due_number, subject_at_begin, subject_drawn, Job_is, Changes, All, all, first_more, first_all, repair_due, begin_of}
use Rattle.machine_defs.specs.States.{State}
use Rattle.machine_defs.specs.Runs.{Moment, now, first_moments, IsRun}
use Rattle.machine_defs.proofs.JobLists.{found_none}
use Rattle.machine_defs.proofs.Events.{changes}

-- a job has the files of its begin, and a repair the number of the due audit
pub record AsBegun (start : State) (ms : List Moment) (j : Job) : Type 0 where
  pub files : j.pinned ≡ pinned_for (begin_of start ms j) j.kind
  pub due : j.kind ≡ RepairJob →
      (u : Due) × (due_of (begin_of start ms j).records ≡ Some u) × (j.subject ≡ u.number)

module _ (limit : ℕ) (start : State) (m : Moment) (ms : List Moment) (A : All start ms)
    (X : Changes limit (length ms) (now start ms) m.event m.outcome m.state)
    (F : (k : ℕ) (j : Job) → job_of (now start ms).jobs k ≡ Some j → AsBegun start ms j) where
  carried : (k : ℕ) (x j : Job) → job_of (now start ms).jobs k ≡ Some x → j.pinned ≡ x.pinned →
      j.kind ≡ x.kind → j.begun ≡ x.begun → (x.kind ≡ RepairJob → j.subject ≡ x.subject) →
      AsBegun start (m ∷ ms) j
  carried k x j runs pinned kind begun subject = (let f = F k x runs in
      let same : begin_of start ms x ≡ begin_of start (m ∷ ms) j =
      ap (now start) (sym (ap (λ n. first_moments n (m ∷ ms)) begun
      ∙ first_more x.begun m ms (A.held.begun k x runs))) in
      record {
        files = pinned ∙ (f.files ∙ (ap (λ (b : State). pinned_for b x.kind) same
            ∙ ap (pinned_for (begin_of start (m ∷ ms) j)) (sym kind)));
        due = λ r. (let d = f.due (sym kind ∙ r) in
            (d.0, ap (λ (b : State). due_of b.records) (sym same) ∙ d.1, subject (sym kind ∙ r) ∙ d.2));
      })

  begun_step : (k : ℕ) (j : Job) → job_of m.state.jobs k ≡ Some j → AsBegun start (m ∷ ms) j
  begun_step k j h = elim (X.job k j h) [
    | Job_is.kept r grown ↦ carried k j j r refl refl refl (λ e. refl)
    | Job_is.begun kd wish is k_is allowed rec ↦
        (let begun : j.begun ≡ length ms = ap (λ (x : Job). x.begun) is in
        let kind : j.kind ≡ kd = ap (λ (x : Job). x.kind) is in
        let same : now start ms ≡ begin_of start (m ∷ ms) j =
        ap (now start) (sym (ap (λ n. first_moments n (m ∷ ms)) begun
        ∙ (first_more (length ms) m ms (omega arith) ∙ first_all ms))) in
        record {
          files = ap (λ (x : Job). x.pinned) is ∙ (ap (λ (b : State). pinned_for b kd) same
              ∙ ap (pinned_for (begin_of start (m ∷ ms) j)) (sym kind));
          due = λ r. (let kd_is : kd ≡ RepairJob = sym kind ∙ r in
              let u = repair_due limit (now start ms) wish (due_of (now start ms).records) refl
              (subst (λ kk. refusal_of_begin limit (now start ms) kk wish ≡ None) kd_is allowed) in (
                u.0,
                ap (λ (b : State). due_of b.records) (sym same) ∙ u.1,
                ap (λ (x : Job). x.subject) is
                    ∙ (ap (subject_at_begin (now start ms)) kd_is ∙ ap due_number u.1),
              ));
        })
    | Job_is.plain x action runs next_is is_plain goes rec st ↦
        carried k x j runs goes.pinned goes.kind goes.begun (λ e. goes.subject)
    | Job_is.drew x runs next_is free is rec ↦ carried k x j runs (ap (λ (y : Job). y.pinned) is)
        (ap (λ (y : Job). y.kind) is) (ap (λ (y : Job). y.begun) is)
        (λ e. ap (λ (y : Job). y.subject) is ∙ ap (subject_drawn (now start ms) x) e)
    | Job_is.finished x a runs next_is flight mine is rec free ↦
        carried k x j runs (ap (λ (y : Job). y.pinned) is) (ap (λ (y : Job). y.kind) is)
        (ap (λ (y : Job). y.begun) is) (λ e. ap (λ (y : Job). y.subject) is)
  ]

-- so it is in every run
pub as_begun : (limit : ℕ) (start : State) → IsStart start → (ms : List Moment) → IsRun limit start ms →
    (k : ℕ) (j : Job) → job_of (now start ms).jobs k ≡ Some j → AsBegun start ms j
as_begun limit start clean [] run = λ k j h. absurd (found_none start.jobs k j clean.jobs h)
as_begun limit start clean (m ∷ ms) run = (let A = all limit start clean ms run.2 in
    begun_step limit start m ms A
    (changes limit (length ms) (now start ms) m.event m.outcome m.state A.numbers.idle run.1)
    (as_begun limit start clean ms run.2))
