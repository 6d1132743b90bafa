-- While a vault goes on, what stands under a name fits, also with what is in flight and in doubt, where it does
-- so in effect and each running job is allowed.
use Rattle.effect_laws.proofs.Words.{◌≡◌, ℕ, ◌<◌, ◌≤◌, ◌==◌, Bool, true, false, List, Option, Some, None, refl, ap, sym, subst, ◌∙◌, arith, eq-eqb, some-not-none, next_id, started_as, file_of, PutJob, AuditJob, Job, job_of, Action, WriteBody, SyncBody, WriteGate, SyncGate, Store, Work, End, actions_left, appends_left, Answer, Event, Step, Outcome, Ended, State, Append, Doubt, setup_in, ended, Moves, Acts, Happens, HasFailed, alone_fails, IsDoubtOf, IsGatedDoubt, IsSoundAppend, IsSound}
use Rattle.machine_defs.specs.Answers as answer
use Rattle.machine_defs.specs.Alone.{StepsAlone}
use Rattle.machine_defs.specs.Begins.{beginning}
use Rattle.machine_defs.proofs.Cases.{IsStill, by_step}
use Rattle.state_laws.specs.Orders.{moves_made}
use Rattle.state_laws.specs.SoundJobs.{IsReady, HasDrawn}
use Rattle.state_laws.proofs.Orders.{appends-order}
use Rattle.effect_laws.proofs.Offers.{Fits, Allows, Brings, Offers, written}

-- ---- a vault goes on past a step that ended a job as it should

-- a vault goes on
pub record GoesOn (w : State) : Type 0 where
  pub is_open : w.is_open ≡ true
  pub unbarred : w.is_barred ≡ false

module _ (old : State) (job : Job) (new : State) where
  moves_fail : (action : Action) (flight : Option Append) (how : Answer) →
      Moves old job action flight (Ended how) new → HasFailed how
  moves_fail WriteBody flight answer.DiskFault h = tt
  moves_fail WriteBody flight answer.Memory h = tt
  moves_fail SyncBody (Some a) answer.DiskFault h = tt
  moves_fail WriteGate (Some a) answer.DiskFault h = tt
  moves_fail WriteGate (Some a) answer.Memory h = tt
  moves_fail SyncGate (Some a) answer.DiskFault h = tt
  moves_fail action flight how h = absurd h

  leaves : (action : Action) (how : Answer) → (HasFailed how → ⊥) → Acts old job action (Ended how) new →
      new ≡ ended old job
  leaves End how good h = h.1
  leaves (Store j o s) (answer.ProviderFault k) good h = absurd (good tt)
  leaves (Store j o s) answer.Memory good h = absurd (good tt)
  leaves (Work o s) (answer.Lost t row) good h = absurd (good tt)
  leaves action how good h = absurd (good (moves_fail action old.append how h))

-- before and behind it
pub goes_on : (limit moment : ℕ) (old : State) (e : Event) (r : Outcome) (new : State) (number : ℕ)
    (how : Answer) → (HasFailed how → ⊥) → e ≡ Step number → r ≡ Ended how →
    Happens limit moment old e r new → GoesOn old × GoesOn new
goes_on limit moment old e r new number how good event outcome h =
    by_step old On (λ n o still is. absurd (subst (IsStill (Step n)) is still))
    (λ job runs is_open unbarred action o w next free made is.
    (let left = leaves old job w action how good (subst (λ z. Acts old job action z w) is made) in (
      record { is_open = is_open; unbarred = unbarred },
      record {
        is_open = ap (λ (v : State). v.is_open) left ∙ is_open;
        unbarred = ap (λ (v : State). v.is_barred) left ∙ unbarred;
      },
    )))
    (λ n x o w at is_open unbarred made is. absurd (good (alone_fails old (beginning old 0 AuditJob None) w x
    how (subst (λ (z : Outcome). StepsAlone old x z w) is made))))
    number old.is_open r new refl (subst (λ (x : Event). Happens limit moment old x r new) event h) outcome
  where
    On : ℕ → Outcome → State → Type 0
    On n o w = o ≡ Ended how → GoesOn old × GoesOn w

-- ---- what is in flight and in doubt then

module _ (Fit : List ℕ → Type 0) (Absent : Type 0) (name : List ℕ) (limit : ℕ) (w : State)
    (S : IsSound limit w) (on : GoesOn w) (effect : Fits Fit Absent name w (file_of w.records name))
    (allowed : (k : ℕ) (j : Job) → job_of w.jobs k ≡ Some j → Allows Fit Absent name j.kind) where
  flies : (a : Append) → w.append ≡ Some a → Brings Fit Absent name w a.entry
  flies a h = written Fit Absent name w A.job A.job.kind a.entry effect (allowed a.job A.job A.runs) drawn
      A.writes
    where
      A : IsSoundAppend w a
      A = S.append a h

      left : 0 < appends_left (setup_in w) A.job
      left = (let J = S.jobs a.job A.job A.runs in
          let made : moves_made w.append a.job ≡ a.moves = rw (h, eq-eqb a.job a.job refl) in
          let b = A.begun in
          appends-order (moves_made w.append a.job) (actions_left (setup_in w) A.job) (omega (arith, made, b))
          J.order)

      drawn : (n bytes : List ℕ) → A.job.kind ≡ PutJob n bytes → 4 ≤ A.job.place →
          (A.job.subject < next_id w.records) × (started_as w.records A.job.subject ≡ Some n) ×
          (w.bytes A.job.subject ≡ bytes)
      drawn n bytes kind late =
          (let D : HasDrawn (setup_in w) w.records w.bytes A.job n bytes =
          (subst (IsReady (setup_in w) w.records w.bytes A.job) kind (S.jobs a.job A.job A.runs).ready) late in
          (D.drawn, D.started left, D.bytes_are))

  doubts : (d : Doubt) → w.doubt ≡ Some d → Brings Fit Absent name w d.entry
  doubts d h = by_flight w.append refl (S.undoubted on.is_open on.unbarred)
    where
      by_moves : (a : Append) (b : Bool) → w.append ≡ Some a → IsGatedDoubt a b w.doubt →
          Brings Fit Absent name w d.entry
      by_moves a false flight none = absurd (some-not-none w.doubt d h none)
      by_moves a true flight (e, in_doubt, is) =
          (let f : Some e ≡ Some d = sym in_doubt ∙ h in let g : e ≡ d = cc in
          rw (← g, is) (flies a flight))

      by_flight : (flight : Option Append) → w.append ≡ flight → IsDoubtOf flight w.doubt →
          Brings Fit Absent name w d.entry
      by_flight None is none = absurd (some-not-none w.doubt d h none)
      by_flight (Some a) is gated = by_moves a (a.moves == 3) is gated

  pub steady : Offers Fit Absent name w
  steady = record { effect = effect; flight = flies; doubt = doubts; jobs = allowed }
