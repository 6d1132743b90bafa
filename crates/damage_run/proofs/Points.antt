-- The places in the run, computed.
use Rattle.std.proofs.Common.{◌≡◌, ℕ, suc, List, [], ◌∷◌, refl}
use Rattle.damage_run.specs.Words.{is_wrong, actions_of, Put, Got, Event, Reopen, Step, Outcome, Opened, Ended, setup_in, Moment, first_moments, set_up}
use Rattle.damage_run.specs.Points.{byte, IsEvent, HasPoints}
use Rattle.damage_run.proofs.Run.{moments}

-- the last moment of some
abbrev pub last_of : List Moment → Moment
last_of [] = record { event = Reopen; outcome = Opened; state = set_up }
last_of (m ∷ ms) = m

-- event k of some moments
abbrev pub event_of : List Moment → ℕ → Moment
event_of ms k = last_of (first_moments (suc k) ms)

-- it is this one, with this outcome
pub is-event : (ms : List Moment) (k : ℕ) (what : Event) (how : Outcome) →
    first_moments (suc k) ms ≡ event_of ms k ∷ first_moments k ms → (event_of ms k).event ≡ what →
    (event_of ms k).outcome ≡ how → IsEvent ms k what how
is-event ms k what how is event outcome =
    record { moment = event_of ms k; is = is; event = event; outcome = outcome }

-- at its places the run has what the premises of the laws ask for
pub points : HasPoints moments
unfolding setup_in actions_of is_wrong
points = assumption (
  is-event moments 14 (Step 1) (Ended Put) refl refl refl,
  is-event moments 24 (Step 2) (Ended (Got byte)) refl refl refl,
  is-event moments 56 (Step 5) (Ended (Got byte)) refl refl refl,
)
