-- Where a block that a job was given came from.
--
--   IsHeldThen old new files j object stripe block == between these two states provider j gave a fetch for
--                                                     these files what it held then, if it was of the size,
--                                                     or none, and its count of failed calls rose
--   CameOf start ms begun files j object stripe block
--                                                  == so it was at a moment of the run with at least so many
--                                                     events before it
use Rattle.std.specs.Prelude.{◌≡◌, ◌⊎◌, ℕ, ◌≤◌, List, ◌∷◌, ◌++◌, length, Option}
use Rattle.device_defs.specs.ProviderCalls.{FetchGives, FailsToGive}
use Rattle.machine_defs.specs.Jobs.{Pinned}
use Rattle.machine_defs.specs.States.{State, object_among}
use Rattle.machine_defs.specs.Runs.{Moment, now}

-- a provider gave a fetch what it held then, or none and a count rose
abbrev pub IsHeldThen : State → State → List Pinned → ℕ → ℕ → ℕ → Option (List ℕ) → Type 0
IsHeldThen old new files j object stripe block =
    FetchGives (object_among old files object).profile.size object stripe (old.providers j).held block
    ⊎ FailsToGive (old.providers j) block (new.providers j)

-- so it was at a moment of a run with at least so many events before it
pub record CameOf (start : State) (ms : List Moment) (begun : ℕ) (files : List Pinned) (j object stripe : ℕ)
    (block : Option (List ℕ)) : Type 0 where
  pub later : List Moment
  pub moment : Moment
  pub before : List Moment
  pub split : ms ≡ later ++ moment ∷ before
  pub since : begun ≤ length before
  pub held : IsHeldThen (now start before) moment.state files j object stripe block
