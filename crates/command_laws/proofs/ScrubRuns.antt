-- A scrub leaves how many providers are handed in.
use Rattle.command_laws.proofs.Words.{◌≡◌, ℕ, ◌+◌, ◌==◌, Bool, true, false, List, [], ◌∷◌, length, Option, None, Some, refl, ap, sym, subst, ◌∙◌, Record, Answer, Outcome, More, Ended, job_of, number_alone, Moment, now, State, Alone, StepsJob, StepsMine, StepsOne, StepsOpen, Steps, AreSteps, IsOpened, RunsScrub, ScrubsAlone, Seen, opened_state, state-over}
use Rattle.machine_defs.proofs.Asides.{steps_aside}

-- a step went on, or ended
abbrev IsOn : Outcome → Type 0
IsOn More = Unit {0}
IsOn (Ended answer) = Unit {0}
IsOn outcome = ⊥

-- jobs and how many providers are handed in stay
abbrev Stays : State → State → Type 0
Stays old new = (new.jobs ≡ old.jobs) × (new.handed ≡ old.handed)

module _ (w new : State) (job : ℕ) (r : Outcome) (on : IsOn r) (none : w.jobs ≡ []) where
  none-runs : (o : Outcome) → IsOn o → StepsJob w None o new → ⊥
  none-runs More on h = h
  none-runs (Ended answer) on h = h
  none-runs o on h = absurd on

  no-job : StepsJob w (job_of w.jobs job) r new → ⊥
  no-job h = none-runs r on (subst (λ js. StepsJob w (job_of js job) r new) none h)

  mine-stays : (x : Alone) (b : Bool) → StepsMine w job x b r new → Stays w new
  mine-stays x true h = (let a = steps_aside w x r new h in (a.jobs, a.handed))
  mine-stays x false h = absurd (no-job h)

  one-stays : (x : Option Alone) → StepsOne w job x r new → Stays w new
  one-stays None h = absurd (no-job h)
  one-stays (Some x) h = mine-stays x (number_alone x == job) h

  barred-not : (o : Outcome) → IsOn o → StepsOpen w job true o new → ⊥
  barred-not More on h = h
  barred-not (Ended answer) on h = h
  barred-not o on h = absurd on

  open-stays : (b : Bool) → StepsOpen w job b r new → Stays w new
  open-stays true h = absurd (barred-not r on h)
  open-stays false h = one-stays w.alone h

  closed-not : (o : Outcome) → IsOn o → Steps w job false o new → ⊥
  closed-not More on h = h
  closed-not (Ended answer) on h = h
  closed-not o on h = absurd on

  steps-stay : (b : Bool) → Steps w job b r new → Stays w new
  steps-stay true h = open-stays w.is_barred h
  steps-stay false h = absurd (closed-not r on h)

-- so it is over all steps of what runs alone
walk-stays : (w : State) (moment job : ℕ) (steps : List Moment) → w.jobs ≡ [] →
    AreSteps w moment job steps → Stays w (now w steps)
walk-stays w moment job [] none h = (refl, refl)
walk-stays w moment job (m ∷ ms) none (event, outcome, happens, rest) =
    (let before = walk-stays w moment job ms none rest in
    let last = steps-stay (now w ms) m.state job More tt (before.0 ∙ none) (now w ms).is_open happens in
    (last.0 ∙ before.0, last.1 ∙ before.1))

-- and over a whole scrub
pub run-stays : (w : State) (moment : ℕ) (how : Answer) (new : State) → w.jobs ≡ [] →
    RunsScrub w moment how new → new.handed ≡ w.handed
run-stays w moment how new none R = (let begun = R.begins.3 in
    let jobs = ap (λ v. v.jobs) begun ∙ none in
    let walk = walk-stays R.begun (moment + 1) R.job R.goes_on.steps jobs R.goes_on.are_steps in
    (steps-stay (now R.begun R.goes_on.steps) new R.job (Ended how) tt (walk.0 ∙ jobs)
    (now R.begun R.goes_on.steps).is_open R.goes_on.ends).1 ∙ (walk.1 ∙ (ap (λ (v : State). v.handed) begun)))

-- after a scrub that ran alone as many providers are handed in
pub scrub-handed : (records : List Record) (how : Answer) (old new : Seen) → (opened : IsOpened old records) →
    ScrubsAlone opened.area records how old new → length new.providers ≡ length old.providers
scrub-handed records how old new O A = (let w = opened_state O.area records A.faults old.providers in
    let V = state-over records A.faults old O in
    let ran = A.ran w 1 V in
    sym ran.handed.count ∙ (run-stays w 1 how ran.last V.at_rest.rest.idle.0 ran.runs ∙ V.handed.count))
