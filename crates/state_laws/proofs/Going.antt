-- Running jobs after an action that puts no record in effect: the job that made it, and all others.
use Rattle.state_laws.proofs.Words.{◌≡◌, ◌<◌, false, drop, refl, ap, sym, subst, ◌∙◌, inl, inr, arith, cases_eq, false≢true, Setup, Record, next_id, started_as, Kind, PutJob, GetJob, DropJob, AuditJob, RepairJob, UpgradeJob, Pinned, Given, Job, Action, SyncGate, End, actions_of, actions_left, ends_append, appends_left, State, setup_in, next_action, same_value, Series, objects, audits, Draws, at_three, moves_before, moves_after, IsInOrder, IsPin, HasDrawn, IsReady, IsSoundJob, refused_after, RepairDone}
use Rattle.std.proofs.Common.{ℕ, ◌+◌, ◌≤◌, ◌^◌, List, ◌∷◌, Some}
use Rattle.state_laws.proofs.Orders.{in_order-step, next-left, appends-cons, appends_in, gates}

-- ---- the list of a job that has made one more action

-- a job with this subject, one action further, and given this
abbrev pub onward : Job → ℕ → List Given → Job
onward job n given = record job { subject = n; place = job.place + 1; given = given }

-- one action further, a job has the same list of actions
pub actions-onward : (s : Setup) (job : Job) (given : List Given) →
    actions_of s (onward job job.subject given) ≡ actions_of s job
unfolding actions_of
actions-onward s job given = refl

-- what is left of the job, where the action is not the End
left-onward : (w : State) (job : Job) (given : List Given) (action : Action) →
    next_action w job ≡ Some action → (action ≡ End → ⊥) →
    actions_left (setup_in w) job ≡ action ∷ actions_left (setup_in w) (onward job job.subject given)
left-onward w job given action next n = next-left w job action next n
    ∙ ap (λ xs. action ∷ drop (job.place + 1) xs) (sym (actions-onward (setup_in w) job given))

-- one action further, what a job has left is in order, with the moves made that its action leaves
pub order-onward : (w : State) (job : Job) (given : List Given) (moves : ℕ) (action : Action) →
    next_action w job ≡ Some action → (action ≡ End → ⊥) →
    IsInOrder moves (actions_left (setup_in w) job) →
    (moves ≡ moves_before action) × IsInOrder (moves_after action)
    (actions_left (setup_in w) (onward job job.subject given))
order-onward w job given moves action next n o =
    in_order-step moves action (actions_left (setup_in w) (onward job job.subject given)) n
    (subst (IsInOrder moves) (left-onward w job given action next n) o)

-- one action further, a job has an append less exactly if its action was a fourth move
pub count-onward : (w : State) (job : Job) (given : List Given) (action : Action) →
    next_action w job ≡ Some action → (action ≡ End → ⊥) →
    appends_left (setup_in w) job ≡ gates action + appends_left (setup_in w) (onward job job.subject given)
count-onward w job given action next n = ap appends_in (left-onward w job given action next n)
    ∙ appends-cons action (actions_left (setup_in w) (onward job job.subject given))

-- ---- the job that made an action

-- a put or an audit at place 3 makes the fourth move of its append
pub not-three : (series : Series) (w : State) (job : Job) (action : Action) → Draws series job.kind →
    next_action w job ≡ Some action → ends_append action ≡ false → job.place ≡ 3 → ⊥
not-three series w job action d next plain three = false≢true (sym plain
    ∙ ap ends_append (same_value _ action SyncGate next (at_three series w job d three)))

module _ (s : Setup) (rs : List Record) (bytes now : ℕ → List ℕ)
    (stay : (id : ℕ) → id < next_id rs → now id ≡ bytes id) where
  pin-on : (f : Pinned) → IsPin rs bytes f → IsPin rs now f
  pin-on f p = record {
    drawn = p.drawn;
    bytes_are = stay f.id p.drawn ∙ p.bytes_are;
    spelled = p.spelled;
    size = p.size;
  }

  drawn-on : (job next : Job) (name content : List ℕ) → next.subject ≡ job.subject →
      appends_left s next ≡ appends_left s job → HasDrawn s rs bytes job name content →
      HasDrawn s rs now next name content
  drawn-on job next name content same count d = record {
    drawn = omega (arith, d.drawn, same);
    bytes_are = ap now same ∙ (stay job.subject d.drawn ∙ d.bytes_are);
    started = λ l. ap (started_as rs) same ∙ d.started (omega (arith, l, count));
  }

  -- what stands ready for another job stays
  pub kept-ready : (job : Job) (kind : Kind) → IsReady s rs bytes job kind → IsReady s rs now job kind
  kept-ready job (PutJob name content) r = λ l. drawn-on job job name content refl refl (r l)
  kept-ready job (DropJob name) r = tt
  kept-ready job _ r = r

  -- another job stays as it was
  pub kept : (moves made : ℕ) (job : Job) → made ≡ moves → IsSoundJob s rs bytes moves job →
      IsSoundJob s rs now made job
  kept moves made job e J = record {
    spelled = J.spelled;
    wish = J.wish;
    pins = J.pins;
    few = J.few;
    ascending = J.ascending;
    pinned = λ f i. pin-on f (J.pinned f i);
    subject = J.subject;
    older = J.older;
    undecided = J.undecided;
    order = subst (λ m. IsInOrder m (actions_left s job)) (sym e) J.order;
    ready = kept-ready job job.kind J.ready;
    profile = J.profile;
    plain = J.plain;
  }

  -- so does what stands ready for the job that made an action that puts no record in effect
  pub went-ready : (w : State) (job : Job) (n : ℕ) (given : List Given) (action : Action) →
      next_action w job ≡ Some action → ends_append action ≡ false →
      (4 ≤ job.place → n ≡ job.subject) → (job.kind ≡ RepairJob → n ≡ job.subject) →
      appends_left s (onward job n given) ≡ appends_left s job → (kind : Kind) → job.kind ≡ kind →
      IsReady s rs bytes job kind → IsReady s rs now (onward job n given) kind
  went-ready w job n given action next plain later repairs count = ready
    where
      behind : (series : Series) → Draws series job.kind → 4 ≤ job.place + 1 → 4 ≤ job.place
      behind series d l = elim (cases_eq job.place 3) [
        | inl three ↦ absurd (not-three series w job action d next plain three)
        | inr other ↦ omega (arith, l, other)
      ]

      ready : (kind : Kind) → job.kind ≡ kind → IsReady s rs bytes job kind →
          IsReady s rs now (onward job n given) kind
      ready (PutJob name content) kind r = λ l.
          (let b = behind objects (subst (Draws objects) (sym kind) tt) l in
          drawn-on job (onward job n given) name content (later b) count (r b))
      ready (GetJob name) kind r = λ k. tt
      ready (DropJob name) kind r = tt
      ready AuditJob kind r = (
        λ l. r.0 (omega (arith, l)),
        λ l k. (let b = behind audits (subst (Draws audits) (sym kind) tt) l in
            r.1 b (omega (arith, k, count)) ∙ ap Some (sym (later b))),
      )
      ready RepairJob kind r =
          λ k. ap (λ x. refused_after rs (RepairDone x)) (repairs kind) ∙ r (omega (arith, k, count))
      ready UpgradeJob kind r = λ k. r (omega (arith, k, count))

  -- the job that made an action that puts no record in effect
  pub went : (w : State) (moves made : ℕ) (job : Job) (n : ℕ) (given : List Given) (action : Action) →
      next_action w job ≡ Some action → ends_append action ≡ false →
      (4 ≤ job.place → n ≡ job.subject) → (job.kind ≡ RepairJob → n ≡ job.subject) → n < 2 ^ 64 →
      appends_left s (onward job n given) ≡ appends_left s job →
      IsInOrder made (actions_left s (onward job n given)) → IsSoundJob s rs bytes moves job →
      IsSoundJob s rs now made (onward job n given)
  went w moves made job n given action next plain later repairs fits count order J = record {
    spelled = J.spelled;
    wish = J.wish;
    pins = J.pins;
    few = J.few;
    ascending = J.ascending;
    pinned = λ f i. pin-on f (J.pinned f i);
    subject = fits;
    older = J.older;
    undecided = λ l. J.undecided (omega (arith, l, count));
    order = order;
    ready = went-ready w job n given action next plain later repairs count job.kind refl J.ready;
    profile = J.profile;
    plain = λ v. (let p = J.plain v in record { own = p.own; pinned = p.pinned });
  }
