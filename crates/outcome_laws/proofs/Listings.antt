-- What a list of the names gives.
use Rattle.outcome_laws.proofs.Words.{◌≡◌, ℕ, true, false, List, ◌∷◌, length, refl, ap, subst, files_of, Event, Names, Outcome, Listed, Closed, Lists, Happens}
use Rattle.machine_defs.specs.States.{State}
use Rattle.machine_defs.specs.Runs.{Moment, now, IsRun}

listed : (old new : State) (r : Outcome) → Lists old true r new → r ≡ Listed (files_of old.records)
listed old new (Listed files) h = ap Listed h.0
listed old new r h = absurd h

shut : (old new : State) (r : Outcome) → Lists old false r new → r ≡ Closed
shut old new Closed h = refl
shut old new r h = absurd h

lists : (limit : ℕ) (start : State) (m : Moment) (ms : List Moment) → IsRun limit start (m ∷ ms) →
    m.event ≡ Names → Lists (now start ms) (now start ms).is_open m.outcome m.state
lists limit start m ms run event =
    subst (λ (e : Event). Happens limit (length ms) (now start ms) e m.outcome m.state) event run.1

-- while a vault is open, the files in effect
pub lists_files : (limit : ℕ) (start : State) (m : Moment) (ms : List Moment) → IsRun limit start (m ∷ ms) →
    m.event ≡ Names → (now start ms).is_open ≡ true → m.outcome ≡ Listed (files_of (now start ms).records)
lists_files limit start m ms run event is_open = listed (now start ms) m.state m.outcome
    (subst (λ b. Lists (now start ms) b m.outcome m.state) is_open (lists limit start m ms run event))

-- while none is open, nothing
pub lists_none : (limit : ℕ) (start : State) (m : Moment) (ms : List Moment) → IsRun limit start (m ∷ ms) →
    m.event ≡ Names → (now start ms).is_open ≡ false → m.outcome ≡ Closed
lists_none limit start m ms run event shut_is = shut (now start ms) m.state m.outcome
    (subst (λ b. Lists (now start ms) b m.outcome m.state) shut_is (lists limit start m ms run event))
