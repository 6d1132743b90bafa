-- Runs, with the newest moment first. A place in time is told as the number of events before it.
--
--   Moment                         == an event, what came of it, and the state after it
--   now start ms                   == the state after these moments
--   IsRun limit start ms           == these moments are a run of the machine, with this limit of running jobs
--   first_moments k ms             == the first k moments
--   is_replacement event outcome j == the event replaced a symbol or a block of provider j
--   is_replaced_since from j ms    == so did the event of number `from` or a later one
--   came old new                   == the record that came into effect between two states, if one did
use Rattle.std.specs.Prelude.{ℕ, suc, ◌==◌, ◌&&◌, ◌||◌, Bool, false, List, [], ◌∷◌, length, Option, None, Some, nat_le, if◌then◌else◌}
use Rattle.record_defs.specs.Records.{Record}
use Rattle.machine_defs.specs.Events.{Event, Alter, Lose, IsSpelled, Outcome, Replaced}
use Rattle.machine_defs.specs.States.{State}
use Rattle.machine_defs.specs.Machine.{Happens}

-- an event, what came of it, and the state after it
pub record Moment : Type 0 where
  pub event : Event
  pub outcome : Outcome
  pub state : State

-- the state after these moments
abbrev pub now : State → List Moment → State
now start [] = start
now start (m ∷ ms) = m.state

-- these moments are a run of the machine, with this limit of running jobs
abbrev pub IsRun : ℕ → State → List Moment → Type 0
IsRun limit start [] = Unit {0}
IsRun limit start (m ∷ ms) =
    IsSpelled m.event × Happens limit (length ms) (now start ms) m.event m.outcome m.state
    × IsRun limit start ms

-- the first so many moments
abbrev pub first_moments : ℕ → List Moment → List Moment
first_moments k [] = []
first_moments k (m ∷ ms) = if nat_le (length (m ∷ ms)) k then m ∷ ms else first_moments k ms

-- an event replaced a symbol or a block of a provider
abbrev pub is_replacement : Event → Outcome → ℕ → Bool
is_replacement (Alter provider object stripe place symbol) Replaced j = provider == j
is_replacement (Lose provider object stripe) Replaced j = provider == j
is_replacement event outcome j = false

-- a provider was replaced by the event of this number or a later one
abbrev pub is_replaced_since : ℕ → ℕ → List Moment → Bool
is_replaced_since from j [] = false
is_replaced_since from j (m ∷ ms) =
    (is_replacement m.event m.outcome j && nat_le from (length ms)) || is_replaced_since from j ms

-- the newest of some records
abbrev pub newest : List Record → Option Record
newest [] = None
newest (r ∷ rs) = Some r

-- the record that came into effect from one state to the next, if one did
abbrev pub came : State → State → Option Record
came old new = if length new.records == suc (length old.records) then newest new.records else None
