-- Replacements of what providers hold.
--
--   Alters old j object stripe place symbol outcome new  == what it may come to that one symbol of a held
--                                          block is altered
--   Loses old j object stripe outcome new                == what it may come to that one held block is lost
use Rattle.std.specs.Prelude.{◌≡◌, ℕ, Bool, true, false, IsSome, nat_lt}
use Rattle.device_defs.specs.Providers.{Held, with_symbol, without_block, HasPlace}
use Rattle.device_defs.specs.ProviderCalls.{Replaces}
use Rattle.machine_defs.specs.Events.{Outcome, Replaced, NothingHeld}
use Rattle.machine_defs.specs.States.{State, ProviderCall}

-- a replacement of what a provider holds that was handed in
abbrev pub ReplacesAt : State → ℕ → (Held → Type 0) → (Held → Held) → Outcome → State → Type 0
ReplacesAt old j IsThere changed Replaced new = ProviderCall old j (Replaces IsThere changed true) old new
ReplacesAt old j IsThere changed NothingHeld new = ProviderCall old j (Replaces IsThere changed false) old new
ReplacesAt old j IsThere changed outcome new = ⊥

-- a replacement, by whether the provider was handed in
abbrev pub ReplacesIf : Bool → State → ℕ → (Held → Type 0) → (Held → Held) → Outcome → State → Type 0
ReplacesIf true old j IsThere changed outcome new = ReplacesAt old j IsThere changed outcome new
ReplacesIf false old j IsThere changed NothingHeld new = new ≡ old
ReplacesIf false old j IsThere changed outcome new = ⊥

-- one symbol of a held block is altered
abbrev pub Alters : State → ℕ → ℕ → ℕ → ℕ → ℕ → Outcome → State → Type 0
Alters old j object stripe place symbol outcome new =
    ReplacesIf (nat_lt j old.handed) old j (λ held. HasPlace (held object stripe) place)
    (with_symbol object stripe place symbol) outcome new

-- one held block is lost
abbrev pub Loses : State → ℕ → ℕ → ℕ → Outcome → State → Type 0
Loses old j object stripe outcome new =
    ReplacesIf (nat_lt j old.handed) old j (λ held. IsSome (held object stripe))
    (without_block object stripe) outcome new
