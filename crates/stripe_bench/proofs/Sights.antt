-- What fetches and stores show of providers holds of the same providers with no content told; what a store's
-- answer says of its provider; which provider of a list was called.
use Rattle.std.proofs.Common.{◌≡◌, ℕ, ◌<◌, Bool, true, false, List, length, map, get_or, Option, None, Some, Result, Ok, Err, refl, ap, sym, subst, ◌∙◌, inl, inr}
use Rattle.std.specs.Prelude.{IfSome, slice_get, slice_set}
use Rattle.std.specs.Option.{option_map}
use Rattle.std.proofs.lemmas.List.{length-set}
use Rattle.std.proofs.lemmas.Option.{none-some, same_Some, slice_get-get_or, slice_get-map}
use Rattle.algebra_laws.proofs.Lists.{get-set_other, get-set_same}
use Rattle.device_defs.specs.Faults.{one_more}
use Rattle.device_defs.specs.Providers.{Provider}
use Rattle.device_defs.specs.ProviderCalls.{StoreCounts, Stores, FindsNoMemory, FailsToStore, Fetches, IsBlock}
use Rattle.stripe_bench.specs.Blocks.{given_of}
use Rattle.stripe_bench.specs.Calls.{CalledOnce, CallsOnly, provider_by}
use Rattle.provider_model.specs.Seen.{StoresAs}
use Rattle.provider_model.specs.declared.fault.StoreFault.{StoreFault}
use Rattle.provider_model.specs.declared.fault.StoreFault.TheVariants as store_fault

store_counts : (p q : Provider) → StoreCounts p q
    → StoreCounts (record p { held = None }) (record q { held = None })
store_counts p q h =
    record { store_faults = h.store_faults; other_faults = h.other_faults; fetches = h.fetches }

-- a store that is done
pub stores_by : (is_told : Bool) (o s : ℕ) (block : List ℕ) (p q : Provider) → Stores o s block p q
    → Stores o s block (provider_by is_told p) (provider_by is_told q)
stores_by true o s block p q h = h
stores_by false o s block p q h = record { held = refl; counts = store_counts p q h.counts }

-- a store that found no memory
pub no_memory_by : (is_told : Bool) (p q : Provider) → FindsNoMemory p q
    → FindsNoMemory (provider_by is_told p) (provider_by is_told q)
no_memory_by true p q h = h
no_memory_by false p q h = record { held = refl; counts = store_counts p q h.counts; no_fault = h.no_fault }

-- a store that failed
pub fails_by : (is_told : Bool) (p q : Provider) → FailsToStore p q
    → FailsToStore (provider_by is_told p) (provider_by is_told q)
fails_by true p q h = h
fails_by false p q h = record { held = refl; counts = store_counts p q h.counts; cause = h.cause }

-- a fetch, of a block where it gave something
pub fetches_by : (is_told : Bool) (size o s : ℕ) (p q : Provider) (given : Option (List ℕ))
    → IfSome given (IsBlock size) → Fetches size o s p given q
    → Fetches size o s (provider_by is_told p) given (provider_by is_told q)
fetches_by true size o s p q given block h = h
fetches_by false size o s p q given block h = record {
  held = refl;
  counts = record {
    store_faults = h.counts.store_faults;
    other_faults = h.counts.other_faults;
    fetches = h.counts.fetches;
  };
  gives = elim h.gives [
    | inl gives ↦ inl block
    | inr fails ↦ inr fails
  ];
}

-- what holds of a block holds of what was given, if it was
pub if_given : (P : List ℕ → Type 0) (found : Bool) (block : List ℕ) → P block → IfSome (given_of found block) P
if_given P true block h = h
if_given P false block h = tt

-- ---- a provider of a list

-- what is seen of one stands at its place
pub seen-at : {X Y : Type 0} (seen : X → Y) (xs : List X) (k : ℕ) (d : X) → k < length xs
    → slice_get (map seen xs) k ≡ Some (seen (get_or xs k d))
seen-at seen xs k d within = slice_get-map seen xs k ∙ ap (option_map seen) (slice_get-get_or xs k d within)

-- where one was called and put back, it alone was called
pub called-only : {X : Type 0} (calls : X → ℕ) (xs : List X) (k : ℕ) (d y : X) → k < length xs
    → calls y ≡ one_more (calls (get_or xs k d)) → CallsOnly calls (Some k) xs (slice_set xs k y)
called-only calls xs k d y within made = record {
  count = length-set xs k y;
  away = λ none. absurd (none-some k (sym none));
  others = λ i other. get-set_other xs k i y (λ e. other (ap Some (sym e)));
  one_call = λ i is. subst (λ (j : ℕ). CalledOnce calls j xs (slice_set xs k y)) (same_Some k i is)
      (ap (option_map calls) (get-set_same xs k y within) ∙ ap Some made
      ∙ sym (ap (option_map (λ p. one_more (calls p))) (slice_get-get_or xs k d within)));
}

-- where none is named, none was
pub called-none : {X : Type 0} (calls : X → ℕ) (called : Option ℕ) (xs : List X) → called ≡ None
    → CallsOnly calls called xs xs
called-none calls called xs none = record {
  count = refl;
  away = λ e. refl;
  others = λ k e. refl;
  one_call = λ j e. absurd (none-some j (sym none ∙ e));
}

-- ---- what a store came to

-- a store whose answer is that it was made was made
pub was_stored : (o t : ℕ) (block : List ℕ) (r : Result Unit StoreFault) (x : Unit) (p q : Provider) →
    r ≡ Ok x → StoresAs o t block r p q → Stores o t block p q
was_stored o t block r x p q is made = subst (λ (y : Result Unit StoreFault). StoresAs o t block y p q) is
    made

-- a store whose answer is a failure failed at the provider
pub was_failed : (o t : ℕ) (block : List ℕ) (r : Result Unit StoreFault) (f : StoreFault) (p q : Provider) →
    r ≡ Err f → f ≡ store_fault.Failed → StoresAs o t block r p q → FailsToStore p q
was_failed o t block r f p q is fault made = subst (λ (y : Result Unit StoreFault). StoresAs o t block y p q)
    (is ∙ ap (λ (y : StoreFault). Err y) fault) made

-- a store whose answer is that memory ran out found none at the provider
pub found_no_memory : (o t : ℕ) (block : List ℕ) (r : Result Unit StoreFault) (f : StoreFault)
    (p q : Provider) → r ≡ Err f → f ≡ store_fault.Memory → StoresAs o t block r p q → FindsNoMemory p q
found_no_memory o t block r f p q is fault made = subst
    (λ (y : Result Unit StoreFault). StoresAs o t block y p q) (is ∙ ap (λ (y : StoreFault). Err y) fault)
    made
