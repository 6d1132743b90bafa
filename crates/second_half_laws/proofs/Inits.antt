-- The setup in effect is that of the init that came to ready.
use Rattle.second_half_laws.proofs.Words.{true, ap, subst, Setup, is_setup, setup_of, setup_or_none, Init, Ready, State, IsStart, setup_in, InitsBy, Inits, Happens, Moment, now, IsRun, run_back}
use Rattle.std.proofs.Common.{◌≡◌, ℕ, Bool, false, List, ◌∷◌, ◌++◌, length, Some}
use Rattle.second_half_laws.proofs.Doubts.{setups_stay}

inits_by : (old : State) (s : Setup) (good : Bool) (new : State) → InitsBy old s good Ready new →
    setup_of new.records ≡ Some s
inits_by old s true new (mid, settles, nothing, (faults, low, is)) = cc
inits_by old s false new h = absurd h

inits : (old : State) (s : Setup) (is_open : Bool) (new : State) → Inits old s is_open Ready new →
    setup_of new.records ≡ Some s
inits old s false new h = inits_by old s (is_setup s) new h
inits old s true new h = absurd h

setup_is : (w : State) (s : Setup) → setup_of w.records ≡ Some s → setup_in w ≡ s
unfolding setup_in
setup_is w s h = ap setup_or_none h

-- from an init that came to ready on its setup is in effect
pub init_sets_up : (limit : ℕ) (start : State) (later ms : List Moment) (m : Moment) (s : Setup) →
    IsStart start → IsRun limit start (later ++ m ∷ ms) → m.event ≡ Init s → m.outcome ≡ Ready →
    setup_in (now start (later ++ m ∷ ms)) ≡ s
init_sets_up limit start later ms m s clean run event outcome = setup_is (now start (later ++ m ∷ ms)) s
    (setups_stay limit start later (m ∷ ms) s clean run (inits (now start ms) s (now start ms).is_open m.state
    (subst (λ e. Happens limit (length ms) (now start ms) e Ready m.state) event
    (rw outcome at (run_back limit start later (m ∷ ms) run).1))))
