-- A link to a provider in the same program.
--
--   behind_loop held .. link        == what such a link tells: nothing where its provider tells nothing
--   idle stores others fetches held == a provider that holds this, with nothing due
use Rattle.std.specs.Prelude.{ℕ, [], drop, Option}
use Rattle.std.specs.Option.{option_map}
use Rattle.device_defs.specs.Providers.{Held}
use Rattle.wire_defs.specs.Links.{Behind}
use Rattle.provider_wire.specs.declared.loop_link.LoopLink.{LoopLink}

-- what such a link tells: nothing where its provider tells nothing
abbrev pub behind_loop : {X : Type 0} → (X → Option Held) → (X → ℕ) → (X → ℕ) → (X → ℕ) → LoopLink X
    → Option Behind
behind_loop held stores others fetches link =
    option_map (λ blocks. record {
      held = blocks;
      store_faults = stores link.provider;
      other_faults = others link.provider;
      fetches = fetches link.provider;
      due = drop link.given link.due;
    }) (held link.provider)

-- a provider that holds this, with nothing due
abbrev pub idle : ℕ → ℕ → ℕ → Held → Behind
idle stores others fetches held =
    record { held = held; store_faults = stores; other_faults = others; fetches = fetches; due = [] }
