-- Which provider a step calls, and what is seen of it.
--
--   CalledOnce calls j old new == of a list of devices the one at place j was called once, by their counts of
--                                 calls
--   CallsOnly calls called old new
--                              == of these devices only the one that is named was called, once; the others
--                                 stay as they are
--   provider_by is_told p      == a provider, or the same with nothing told of what it holds
--   sight is_told P p          == what is seen of a provider, with its content or without
use Rattle.std.specs.Prelude.{◌≡◌, ◌≢◌, ℕ, Bool, true, false, List, length, Option, None, Some, slice_get}
use Rattle.std.specs.Option.{option_map}
use Rattle.device_defs.specs.Faults.{one_more}
use Rattle.device_defs.specs.Providers.{Provider}
use Rattle.provider_model.specs.declared.provider.Provider.{Ghosts}
use Rattle.provider_model.specs.Seen.{provider_seen}

-- the device at a place was called once
abbrev pub CalledOnce : {X : Type 0} → (X → ℕ) → ℕ → List X → List X → Type 0
CalledOnce calls j old new =
    option_map calls (slice_get new j) ≡ option_map (λ p. one_more (calls p)) (slice_get old j)

-- of these devices only the one that is named, if one is, was called, once; the others stay as they are
pub record CallsOnly {X : Type 0} (calls : X → ℕ) (called : Option ℕ) (old new : List X) : Type 0 where
  pub count : length new ≡ length old
  pub away : called ≡ None → new ≡ old
  pub others : (k : ℕ) → called ≢ Some k → slice_get new k ≡ slice_get old k
  pub one_call : (j : ℕ) → called ≡ Some j → CalledOnce calls j old new

-- a provider, or the same with nothing told of what it holds
abbrev pub provider_by : Bool → Provider → Provider
provider_by true p = p
provider_by false p = record p { held = None }

-- what is seen of a provider, with its content or without
abbrev pub sight : {X : Type 0} → Bool → Ghosts X → X → Provider
sight is_told P p = provider_by is_told (provider_seen P p)
