-- Counts of devices never fall, and a provider that tells what it holds goes on telling.
use Rattle.second_half_laws.proofs.Words.{true, refl, sym, subst, inl, inr, arith, IsSome, option_map, cases_Bool, eqb-true, false≢true, Held, Provider, LosesPart, with_block, without_object, Stores, FailsToStore, FindsNoMemory, Fetches, Asks, Removes, Replaces, Job, Event, Outcome, State, Alone, with_provider, Happens, Moment, now, IsRun, AllTell, Answer, IsUnstored, Acting, Beside, Cases, by_alone, by_event}
use Rattle.std.proofs.Common.{◌≡◌, ℕ, ◌≤◌, ◌==◌, Bool, false, List, [], ◌∷◌, Option, Some, None}
use Rattle.device_defs.specs.Told.{Goes}

-- what is seen of a provider, from one moment to a later one
pub record Onward (p q : Provider) : Type 0 where
  pub tells : IsSome p.held → IsSome q.held
  pub stores : p.store_faults ≤ q.store_faults
  pub others : p.other_faults ≤ q.other_faults

-- what is seen of all devices
pub record AllOnward (old new : State) : Type 0 where
  pub disk : old.disk_faults ≤ new.disk_faults
  pub provider : (j : ℕ) → Onward (old.providers j) (new.providers j)

stands : (p : Provider) → Onward p p
stands p = record { tells = λ h. h; stores = omega arith; others = omega arith }

mapped : (f : Held → Held) (old new : Option Held) → new ≡ option_map f old → IsSome old → IsSome new
mapped f None new e h = absurd (false≢true h)
mapped f (Some x) new e h = cc

lost_part : (object : ℕ) (old new : Option Held) → Goes (LosesPart object) old new → IsSome old → IsSome new
lost_part object (Some x) (Some y) g h = refl
lost_part object (Some x) None g h = absurd g
lost_part object None new g h = absurd (false≢true h)

module _ (p q : Provider) where
  stored : (o s : ℕ) (block : List ℕ) → Stores o s block p q → Onward p q
  stored o s block c = record {
    tells = mapped (with_block o s block) p.held q.held c.held;
    stores = c.counts.store_faults;
    others = omega (arith, c.counts.other_faults);
  }

  store_failed : FailsToStore p q → Onward p q
  store_failed c = record {
    tells = subst IsSome (sym c.held);
    stores = c.counts.store_faults;
    others = omega (arith, c.counts.other_faults);
  }

  no_memory : FindsNoMemory p q → Onward p q
  no_memory c = record {
    tells = subst IsSome (sym c.held);
    stores = c.counts.store_faults;
    others = omega (arith, c.counts.other_faults);
  }

  fetched : (size o s : ℕ) (block : Option (List ℕ)) → Fetches size o s p block q → Onward p q
  fetched size o s block c =
      record {
        tells = subst IsSome (sym c.held);
        stores = omega (arith, c.counts.store_faults);
        others = c.counts.other_faults;
      }

  asked : (honest : (ℕ → Option (List ℕ)) → Option ℕ) (o : ℕ) (symbol : Option ℕ) → Asks honest o p symbol q →
      Onward p q
  asked honest o symbol c =
      record {
        tells = subst IsSome (sym c.held);
        stores = omega (arith, c.counts.store_faults);
        others = c.counts.other_faults;
      }

  removed : (o : ℕ) → Removes o p q → Onward p q
  removed o (inl c) = record {
    tells = mapped (without_object o) p.held q.held c.held;
    stores = omega (arith, c.counts.store_faults);
    others = c.counts.other_faults;
  }
  removed o (inr c) = record {
    tells = lost_part o p.held q.held c.held;
    stores = omega (arith, c.counts.store_faults);
    others = c.counts.other_faults;
  }

replaced : (IsThere : Held → Type 0) (change : Held → Held) (done : Bool) (held : Option Held)
    (p q : Provider) → p.held ≡ held → Replaces IsThere change done p q → Onward p q
replaced IsThere change done held p q is h = go held p is h
  where
    go : (x : Option Held) (r : Provider) → r.held ≡ x → Replaces IsThere change done r q → Onward r q
    go None r e g = (let k = rw e at g in
        record {
          tells = λ z. absurd (false≢true (rw e at z));
          stores = omega (arith, k.1.store_faults);
          others = k.1.other_faults;
        })
    go (Some x) r e g = subst (Onward r) (sym (rw e at g).1) (record
        { tells = λ z. refl; stores = omega arith; others = omega arith })

module _ (old : State) where
  -- no provider changes
  quiet : (new : State) → new.providers ≡ old.providers → old.disk_faults ≤ new.disk_faults →
      AllOnward old new
  quiet new providers disk = record {
    disk = disk;
    provider = λ j. subst (λ p. Onward (old.providers j) (p j)) (sym providers) (stands (old.providers j));
  }

  -- one provider is called
  called : (j : ℕ) (p : Provider) (new : State) → Onward (old.providers j) p →
      new.disk_faults ≡ old.disk_faults → new.providers ≡ with_provider old.providers j p → AllOnward old new
  called j p new goes disk providers = record {
    disk = omega (arith, disk);
    provider = λ i. subst (λ q. Onward (old.providers i) (q i)) (sym providers) (at i);
  }
    where
      at : (i : ℕ) → Onward (old.providers i) (with_provider old.providers j p i)
      at i = elim (cases_Bool (i == j)) [
        | inl t ↦ subst (λ x. Onward (old.providers i) x) (sym (hit i t))
            (subst (λ n. Onward (old.providers n) p) (sym (eqb-true i j t)) goes)
        | inr f ↦ subst (λ x. Onward (old.providers i) x) (sym (miss i f)) (stands (old.providers i))
      ]
        where
          hit : (n : ℕ) → (n == j) ≡ true → with_provider old.providers j p n ≡ p
          hit n t = cc

          miss : (n : ℕ) → (n == j) ≡ false → with_provider old.providers j p n ≡ old.providers n
          miss n f = cc

  not_stored : (j : ℕ) (p : Provider) (how : Answer) → IsUnstored (old.providers j) p j how →
      Onward (old.providers j) p
  not_stored j p how (inl (call, is)) = store_failed (old.providers j) p call
  not_stored j p how (inr (call, is)) = no_memory (old.providers j) p call

  acts : (job : Job) → Acting old job (λ r w. AllOnward old w)
  acts job = record {
    begins = λ entry next none writes faults low. quiet _ refl low;
    syncs = λ a next flight mine faults low. quiet _ refl low;
    gates = λ a next flight mine faults low. quiet _ refl low;
    finishes = λ a next flight mine faults low. quiet _ refl low;
    bars = λ action plain next mine faults low rose. quiet _ refl low;
    bars_gated = λ a next flight mine faults low rose. quiet _ refl low;
    begins_not = λ next none. quiet _ refl (omega arith);
    gates_not = λ a next flight mine. quiet _ refl (omega arith);
    stores = λ j o s p next call. called j p _ (stored (old.providers j) p o s _ call) refl refl;
    stores_not = λ j o s p how next call. called j p _ (not_stored j p how call) refl refl;
    fetches = λ j o s block p next call. called j p _ (fetched (old.providers j) p _ o s block call) refl refl;
    asks = λ j o round symbol p next call. called j p _ (asked (old.providers j) p _ o symbol call) refl refl;
    works = λ o s symbols next gives. quiet _ refl (omega arith);
    removes = λ j o p next call. called j p _ (removed (old.providers j) p o call) refl refl;
    ends = λ action how next last. quiet _ refl (omega arith);
  }

  besides : (x : Alone) → Beside old x (λ r w. AllOnward old w)
  besides x = record {
    stores = λ scrub rest j o s p is todo call. called j p _ (stored (old.providers j) p o s _ call) refl refl;
    stores_not = λ j p how call. called j p _ (not_stored j p how call) refl refl;
    fetches = λ scrub left j o s block p call.
        called j p _ (fetched (old.providers j) p _ o s block call) refl refl;
    aside = λ left r h. quiet _ refl (omega arith);
    packs = λ left barred switching journal area faults r h low. quiet _ refl low;
  }

  events : (limit moment : ℕ) → Cases limit moment old (λ e r w. AllOnward old w)
  events limit moment = record {
    still = λ e r h. quiet old refl (omega arith);
    acts = λ job runs is_open unbarred. acts job;
    alone = λ number x r new at is_open unbarred h. by_alone old x (λ r w. AllOnward old w) (besides x) r new h;
    begins = λ kind is_open allowed. quiet _ refl (omega arith);
    begins_at = λ profile name bytes is_open allowed. quiet _ refl (omega arith);
    scrub = λ allowed. quiet _ refl (omega arith);
    pack = λ allowed. quiet _ refl (omega arith);
    stops = λ picks rs js area so. quiet _ refl (omega arith);
    opens = λ rs js area so up faults low. quiet _ refl low;
    opens_not = λ why rs js area so faults low. quiet _ refl low;
    reads_not = λ why faults low. quiet _ refl low;
    sets_up = λ s rs js good closed so none faults low. quiet _ refl low;
    sets_up_not = λ s why doubt good closed so faults low. quiet _ refl low;
    is_set_up = λ s rs js closed so faults low. quiet _ refl low;
    replaces = λ e j IsThere changed p still counts call. called j p _
        (replaced IsThere changed true (old.providers j).held (old.providers j) p refl call) refl refl;
    replaces_not = λ e j IsThere changed p still call. called j p _
        (replaced IsThere changed false (old.providers j).held (old.providers j) p refl call) refl refl;
    continues = quiet _ refl (omega arith);
  }

  -- by an event no count of a device falls, and providers that tell what they hold go on telling
  pub onward : (limit moment : ℕ) (e : Event) (r : Outcome) (new : State) → Happens limit moment old e r new →
      AllOnward old new
  onward limit moment e r new h =
      by_event limit moment old (λ e r w. AllOnward old w) (events limit moment) e r new h

-- in a run no event makes a count of a device fall, and providers go on telling
pub run_onward : (limit : ℕ) (start : State) (m : Moment) (ms : List Moment) → IsRun limit start (m ∷ ms) →
    AllOnward (now start ms) m.state
run_onward limit start m ms run = onward _ limit _ _ _ m.state run.1

-- where all providers tell what they hold at the start, they do in the whole run
pub all_tell : (limit : ℕ) (start : State) (ms : List Moment) → AllTell start → IsRun limit start ms →
    AllTell (now start ms)
all_tell limit start [] tell run = tell
all_tell limit start (m ∷ ms) tell run =
    λ j. ((run_onward limit start m ms run).provider j).tells (all_tell limit start ms tell run.2 j)
