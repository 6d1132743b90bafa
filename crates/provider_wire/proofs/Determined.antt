-- What the answers to requests are, where no call fails, and how many say that one did.
use Rattle.provider_wire.proofs.Words.{◌≡◌, ◌+◌, ◌<◌, ◌≤◌, List, [], ◌∷◌, ◌++◌, refl, ap, ◌∙◌, arith, ◌⊎◌, inl, inr, ⊎_elim, if◌then◌else◌, option_map, last_count, Rose, Held, Provider, with_block, without_object, Request, Store, Fetch, Ask, Remove, Reply, Done, Found, Missing, Failed, NoMemory, AnswersRequest, Serves, AreClean, is_failed, failed_count, found, reply_to, held_after, served, reply_bytes, replies_text}
use Rattle.std.proofs.Common.{Some}
use Rattle.device_defs.specs.ProviderCalls.{StoreCounts}

-- the answer to one request
answer_is : (r : Request) (a : Reply) (old new : Provider) (held : Held) → old.held ≡ Some held →
    AnswersRequest r old a new → AreClean (a ∷ []) →
    (a ≡ reply_to r held) × (new.held ≡ Some (held_after r held))
answer_is (Store o s block) Done old new held e is clean =
    (refl, is.held ∙ ap (option_map (with_block o s block)) e)
answer_is (Fetch o s size) (Found block) old new held e is clean = (ap found (rw e at is.gives), is.held ∙ e)
answer_is (Fetch o s size) Missing old new held e is clean = (ap found (rw e at is.gives), is.held ∙ e)
answer_is (Ask o c) (Found (x ∷ [])) old new held e is clean = (
  ap (λ g. found (option_map (λ symbol. symbol ∷ []) g)) (rw e at is.gives),
  is.held ∙ e,
)
answer_is (Ask o c) Missing old new held e is clean = (
  ap (λ g. found (option_map (λ symbol. symbol ∷ []) g)) (rw e at is.gives),
  is.held ∙ e,
)
answer_is (Remove o) Done old new held e is clean = (refl, is.held ∙ ap (option_map (without_object o)) e)
answer_is _ Failed old new held e is clean = absurd clean
answer_is _ NoMemory old new held e is clean = absurd clean
answer_is _ _ old new held e is clean = absurd is

clean_parts : (a : Reply) (as_ : List Reply) → AreClean (a ∷ as_) → AreClean (a ∷ []) × AreClean as_
clean_parts Done as_ c = (tt, c)
clean_parts (Found symbols) as_ c = (tt, c)
clean_parts Missing as_ c = (tt, c)
clean_parts Failed as_ c = absurd c
clean_parts NoMemory as_ c = absurd c

-- of a server over a told provider, the requests determine the answers and what is held then, where no call
-- failed
pub determined : (rs : List Request) (as_ : List Reply) (old new : Provider) (held : Held) →
    old.held ≡ Some held → Serves rs old as_ new → AreClean as_
    → (replies_text as_ ≡ (served held rs).0) × (new.held ≡ Some (served held rs).1)
determined [] [] old new held e is clean = (refl, ap (λ (p : Provider). p.held) is ∙ e)
determined (r ∷ rs) (a ∷ as_) old new held e is clean =
    let parts = clean_parts a as_ clean in
    let before = determined rs as_ old is.0 held e is.1 parts.1 in
    let one = answer_is r a is.0 new (served held rs).1 before.1 is.2 parts.0 in
    ((λ i. before.0 i ++ reply_bytes (one.0 i)), one.1)
determined _ _ old new held e is clean = absurd is

-- how the counts of a provider go on in one answer
pub record Counted (a : Reply) (old new : Provider) : Type 0 where
  pub stores : old.store_faults ≤ new.store_faults
  pub others : old.other_faults ≤ new.other_faults
  pub failed : a ≡ Failed → Rose old.store_faults new.store_faults ⊎ Rose old.other_faults new.other_faults

by_store : {a : Reply} {old new : Provider} → StoreCounts old new →
    (a ≡ Failed → Rose old.store_faults new.store_faults) → Counted a old new
by_store counts cause = record {
  stores = counts.store_faults;
  others = omega (arith, counts.other_faults);
  failed = λ e. inl (cause e);
}

by_other : {a : Reply} {old new : Provider} → new.store_faults ≡ old.store_faults →
    old.other_faults ≤ new.other_faults → (a ≡ Failed → Rose old.other_faults new.other_faults) →
    Counted a old new
by_other stores others cause =
    record { stores = omega (arith, stores); others = others; failed = λ e. inr (cause e) }

counted : (r : Request) (a : Reply) (old new : Provider) → AnswersRequest r old a new → Counted a old new
counted (Store o s block) Done old new is = by_store is.counts (λ e. absurd (cc e))
counted (Store o s block) Failed old new is = by_store is.counts (λ _. is.cause)
counted (Store o s block) NoMemory old new is = by_store is.counts (λ e. absurd (cc e))
counted (Fetch o s size) (Found block) old new is =
    by_other is.counts.store_faults is.counts.other_faults (λ e. absurd (cc e))
counted (Fetch o s size) Missing old new is =
    by_other is.counts.store_faults is.counts.other_faults (λ e. absurd (cc e))
counted (Fetch o s size) Failed old new is =
    by_other is.counts.store_faults is.counts.other_faults (λ _. is.cause)
counted (Ask o c) (Found (x ∷ [])) old new is =
    by_other is.counts.store_faults is.counts.other_faults (λ e. absurd (cc e))
counted (Ask o c) Missing old new is =
    by_other is.counts.store_faults is.counts.other_faults (λ e. absurd (cc e))
counted (Ask o c) Failed old new is = by_other is.counts.store_faults is.counts.other_faults (λ _. is.cause)
counted (Remove o) Done old new is =
    by_other is.counts.store_faults is.counts.other_faults (λ e. absurd (cc e))
counted (Remove o) Failed old new is = by_other is.counts.store_faults is.counts.other_faults (λ _. is.cause)
counted _ _ old new is = absurd is

rises : (a : Reply) (old new : Provider) → Counted a old new → new.store_faults < last_count →
    new.other_faults < last_count →
    old.store_faults + old.other_faults + (if is_failed a then 1 else 0) ≤ new.store_faults + new.other_faults
rises Failed old new c s o = ⊎_elim (λ rose. omega (arith, c.others, rose (omega (arith, c.stores))))
    (λ rose. omega (arith, c.stores, rose (omega (arith, c.others)))) (c.failed refl)
rises _ old new c s o = omega (arith, c.stores, c.others)

-- while no count stands at its last value, each failed call raised one
pub failed_counted : (rs : List Request) (as_ : List Reply) (old new : Provider) → Serves rs old as_ new →
    new.store_faults < last_count → new.other_faults < last_count
    → old.store_faults + old.other_faults + failed_count as_ ≤ new.store_faults + new.other_faults
failed_counted [] [] old new is s o =
    let a : new.store_faults ≡ old.store_faults = ap (λ (p : Provider). p.store_faults) is in
    let b : new.other_faults ≡ old.other_faults = ap (λ (p : Provider). p.other_faults) is in
    omega (arith, a, b)
failed_counted (r ∷ rs) (a ∷ as_) old new is s o =
    let c = counted r a is.0 new is.2 in
    let one = rises a is.0 new c s o in
    let before = failed_counted rs as_ old is.0 is.1 (omega (arith, c.stores)) (omega (arith, c.others)) in
    omega (arith, one, before)
failed_counted _ _ old new is s o = absurd is

-- the counts of a provider do not fall
pub counts_kept : (rs : List Request) (as_ : List Reply) (old new : Provider) → Serves rs old as_ new →
    (old.store_faults ≤ new.store_faults) × (old.other_faults ≤ new.other_faults)
counts_kept [] [] old new is =
    let a = ap (λ p. p.store_faults) is in
    (omega arith, omega (arith, ap (λ (p : Provider). p.other_faults) is))
counts_kept (r ∷ rs) (a ∷ as_) old new is =
    let c = counted r a is.0 new is.2 in
    let before = counts_kept rs as_ old is.0 is.1 in
    (omega (arith, c.stores, before.0), omega (arith, c.others, before.1))
counts_kept _ _ old new is = absurd is
