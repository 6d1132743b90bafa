-- What events leave of a state: how many providers are handed in, whether a vault is open, and the number of
-- the next job.
use Rattle.hail_replay.proofs.Words.{◌≡◌, ℕ, ◌+◌, ◌≤◌, Bool, true, false, List, [], ◌∷◌, ◌++◌, length, Option, refl, ap, ◌∙◌, subst, arith, Held, Kind, Job, Event, Step, Outcome, Refused, Begun, Replaced, NothingHeld, Closed, State, Steps, BeginsAlone, ReplacesAt, ReplacesIf, Happens, Moment, now, IsRun, GoOn}
use Rattle.machine_defs.specs.Refusals.{Refusal}
use Rattle.machine_defs.specs.States.{Alone}
use Rattle.machine_defs.specs.Begins.{BeginsAt}
use Rattle.machine_defs.proofs.Cases.{Acting, by_action, by_step}
use Rattle.machine_defs.proofs.Asides.{steps_aside}

-- none of the three changes
pub record Same (old new : State) : Type 0 where
  pub handed : new.handed ≡ old.handed
  pub is_open : new.is_open ≡ old.is_open
  pub next : new.next_job ≡ old.next_job

-- a state is one with itself in its setup and providers
pub nothing : (w : State) → Same w w
nothing w = record { handed = refl; is_open = refl; next = refl }

-- two states that are one with a third are one
pub both : (w u v : State) → Same w u → Same u v → Same w v
both w u v a b = record {
  handed = b.handed ∙ a.handed;
  is_open = b.is_open ∙ a.is_open;
  next = b.next
      ∙ a.next;
}

module _ (old : State) where
  -- the new state is this one, which leaves them
  at : (left new : State) → new ≡ left → left.handed ≡ old.handed → left.is_open ≡ old.is_open →
      left.next_job ≡ old.next_job → Same old new
  at left new is h o n = record {
    handed = ap (λ (w : State). w.handed) is ∙ h;
    is_open = ap (λ (w : State). w.is_open) is ∙ o;
    next = ap (λ (w : State). w.next_job) is ∙ n;
  }

  stays : (new : State) → new.handed ≡ old.handed → new.is_open ≡ old.is_open →
      new.next_job ≡ old.next_job → Same old new
  stays new handed is_open next = record { handed = handed; is_open = is_open; next = next }

  acts : (job : Job) → Acting old job (λ r w. Same old w)
  acts job = record {
    begins = λ entry next none writes faults low. stays _ refl refl refl;
    syncs = λ a next flight mine faults low. stays _ refl refl refl;
    gates = λ a next flight mine faults low. stays _ refl refl refl;
    finishes = λ a next flight mine faults low. stays _ refl refl refl;
    bars = λ action plain next mine faults low rose. stays _ refl refl refl;
    bars_gated = λ a next flight mine faults low rose. stays _ refl refl refl;
    begins_not = λ next none. stays _ refl refl refl;
    gates_not = λ a next flight mine. stays _ refl refl refl;
    stores = λ j o s p next call. stays _ refl refl refl;
    stores_not = λ j o s p how next call. stays _ refl refl refl;
    fetches = λ j o s block p next call. stays _ refl refl refl;
    asks = λ j o round symbol p next call. stays _ refl refl refl;
    works = λ o s symbols next gives. stays _ refl refl refl;
    removes = λ j o p next call. stays _ refl refl refl;
    ends = λ action how next last. stays _ refl refl refl;
  }

  -- a step keeps setup and providers that there are
  pub steps : (number : ℕ) (r : Outcome) (new : State) → Steps old number old.is_open r new → Same old new
  steps number r new h = by_step old (λ n r w. Same old w) (λ n r still. nothing old)
      (λ job runs opened unbarred. by_action old job (λ r w. Same old w) (acts job))
      (λ n x r w at opened unbarred h. (let a = steps_aside old x r w h in
      stays w a.handed a.is_open a.next_job)) number old.is_open r new refl h

  replaces : (j : ℕ) (IsThere : Held → Type 0) (changed : Held → Held) (r : Outcome) (new : State) →
      ReplacesAt old j IsThere changed r new → Same old new
  replaces j IsThere changed Replaced new (p, call, is) = at _ new is refl refl refl
  replaces j IsThere changed NothingHeld new (p, call, is) = at _ new is refl refl refl
  replaces j IsThere changed r new h = absurd h

  -- so does a replacement
  pub replaces_if : (handed : Bool) (j : ℕ) (IsThere : Held → Type 0) (changed : Held → Held) (r : Outcome)
      (new : State) → ReplacesIf handed old j IsThere changed r new → Same old new
  replaces_if true j IsThere changed r new h = replaces j IsThere changed r new h
  replaces_if false j IsThere changed NothingHeld new h = at old new h refl refl refl
  replaces_if false j IsThere changed r new h = absurd h

  -- a begin draws at most one number
  pub record OneMore (new : State) : Type 0 where
    pub is_open : new.is_open ≡ old.is_open
    pub next : new.next_job ≤ old.next_job + 1

  one_more : (left new : State) → new ≡ left → left.is_open ≡ old.is_open → left.next_job ≤ old.next_job + 1 →
      OneMore new
  one_more left new is o n = record {
    is_open = ap (λ (w : State). w.is_open) is ∙ o;
    next = (let e = ap (λ (w : State). w.next_job) is in omega (arith, e, n));
  }

  -- so does a begin, which may give one number more
  pub begins : (limit moment : ℕ) (kind : Kind) (own : Option ℕ) (r : Outcome) (new : State) →
      BeginsAt limit moment old kind own r new → OneMore new
  begins limit moment kind own Closed new h = one_more old new h.1 refl (omega arith)
  begins limit moment kind own (Refused why) new h = one_more old new h.2 refl (omega arith)
  begins limit moment kind own (Begun job) new h = one_more _ new h.3 refl (omega arith)
  begins limit moment kind own r new h = absurd h

  -- and the begin of what runs alone
  pub begins_alone : (why : Option Refusal) (x : Alone) (r : Outcome) (new : State) →
      BeginsAlone old why x r new → OneMore new
  begins_alone why x Closed new h = one_more old new h.1 refl (omega arith)
  begins_alone why x (Refused refused) new h = one_more old new h.2 refl (omega arith)
  begins_alone why x (Begun job) new h = one_more _ new h.3 refl (omega arith)
  begins_alone why x r new h = absurd h

-- a step of a run
pub step_of : (start : State) (ms : List Moment) (m : Moment) (job : ℕ) → m.event ≡ Step job →
    IsRun 8 start (m ∷ ms) → Same (now start ms) m.state
step_of start ms m job is run =
    (let h = subst (λ (e : Event). Happens 8 (length ms) (now start ms) e m.outcome m.state) is run.1 in
    steps (now start ms) job m.outcome m.state h)

-- steps that went on
pub going : (start : State) (job : ℕ) (ms : List Moment) → GoOn job ms → IsRun 8 start (ms ++ []) →
    Same start (now start (ms ++ []))
going start job [] g run = nothing start
going start job (m ∷ ms) g run = both start (now start (ms ++ [])) m.state (going start job ms g.2 run.2)
    (step_of start (ms ++ []) m job g.0 run)
