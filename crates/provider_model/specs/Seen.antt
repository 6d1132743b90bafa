-- A provider as it is seen, by the members of its trait, and what a store comes to.
--
--   provider_seen P provider                    == what is seen of a provider: what it holds, where it tells
--                                                  it, and its three counts
--   StoresAs object stripe block result old new == a call of a provider's store that came to this
use Rattle.std.specs.Prelude.{ℕ, List, Result, Ok, Err}
use Rattle.device_defs.specs.Providers.{Provider}
use Rattle.device_defs.specs.ProviderCalls.{Stores, FailsToStore, FindsNoMemory}
use Rattle.provider_model.specs.declared.provider.Provider.{Ghosts}
use Rattle.provider_model.specs.declared.fault.StoreFault.{StoreFault}
use Rattle.provider_model.specs.declared.fault.StoreFault.TheVariants as store_fault

-- what is seen of a provider
abbrev pub provider_seen : {X : Type 0} → Ghosts X → X → Provider
provider_seen P p =
    record {
      held = P.held p;
      store_faults = P.store_faults p;
      other_faults = P.other_faults p;
      fetches = P.fetches p;
    }

-- a call of store, by what came of it
abbrev pub StoresAs : ℕ → ℕ → List ℕ → Result Unit StoreFault → Provider → Provider → Type 0
StoresAs object stripe block (Ok done) old new = Stores object stripe block old new
StoresAs object stripe block (Err store_fault.Failed) old new = FailsToStore old new
StoresAs object stripe block (Err store_fault.Memory) old new = FindsNoMemory old new
