-- An alteration or a loss as an event of the machine.
use Rattle.hail_client.proofs.Words.{◌≡◌, ◌↔◌, ℕ, ◌<◌, ◌≤◌, Bool, false, List, Option, Some, None, refl, sym, subst, ◌∙◌, arith, IsTrue, IsSome, IfSome, nat_lt, slice_get, slice_set, if◌then◌else◌, option_map, lt-ltb, le-ltb, Cells, Held, Provider, Event, Outcome, IsSpelled, NothingHeld, unalone, State, with_provider, Happens, devices-sound, PackJob, Vault, StandsPacking, plain, AreHanded, devices, ScrubIs, setup_same, vault_replaced, held_replaced, Alone, ScrubJob, Client, replace_outcome, StandsBy, StandsHeld, ClientStands, MakesEvent, shown-again}
use Rattle.std.proofs.Common.{true, length}
use Rattle.record_defs.specs.Records.{Setup}
use Rattle.device_defs.specs.ProviderCalls.{Replaces}
use Rattle.machine_defs.specs.Replacements.{ReplacesAt, ReplacesIf}
use Rattle.vault.proofs.Ways.{handed_on}
use Rattle.hail_client.specs.declared.alone.Alone.TheVariants as alone
use Rattle.hail_client.proofs.Standing.{devices-of}

-- what a provider that tells goes to, or one that does not
pub replaces : (IsThere : Held → Type 0) (change : Held → Held) (answer : Bool) (told : Option Held)
    (stores others fetches : ℕ) (new : Provider) → IfSome told (λ held. IsTrue answer ↔ IsThere held) →
    new.held ≡ (if answer then option_map change told else told) → new.store_faults ≡ stores →
    others ≤ new.other_faults → (IsSome told → new.other_faults ≡ others) → new.fetches ≡ fetches →
    Replaces IsThere change answer
    (record { held = told; store_faults = stores; other_faults = others; fetches = fetches }) new
replaces IsThere change true (Some held) stores others fetches new there holds same_stores more same_others same_fetches = (
  there,
  λ i. record {
    held = holds i;
    store_faults = same_stores i;
    other_faults = same_others refl i;
    fetches = same_fetches i;
  },
)
replaces IsThere change false (Some held) stores others fetches new there holds same_stores more same_others same_fetches = (
  there,
  λ i. record {
    held = holds i;
    store_faults = same_stores i;
    other_faults = same_others refl i;
    fetches = same_fetches i;
  },
)
replaces IsThere change true None stores others fetches new there holds same_stores more same_others same_fetches =
    (holds, record { store_faults = same_stores; other_faults = more; fetches = same_fetches })
replaces IsThere change false None stores others fetches new there holds same_stores more same_others same_fetches =
    (holds, record { store_faults = same_stores; other_faults = more; fetches = same_fetches })

-- the state with these providers
abbrev pub after : State → (ℕ → Provider) → State
after w providers = record w { providers = providers }

module _ (holds : Option Cells) (faults : ℕ) (ps qs : List Provider) where
  module _ (w : State) (providers : ℕ → Provider) where
    -- a vault beside a scrub stands for the state with other providers that are handed in
    held-after : (v : Vault) (job : ScrubJob) → StandsHeld v job (devices holds faults ps) w →
        AreHanded qs (after w providers) → StandsHeld v job (devices holds faults qs) (after w providers)
    held-after v job S handed = record {
      scrub = S.scrub;
      number_is = S.number_is;
      beside = held_replaced (devices holds faults ps) (unalone w) qs providers v S.scrub.number S.beside
          (record { count = handed.count; each = handed.each });
      stands = record {
        alone = S.stands.alone;
        handed = handed;
        scrub = subst (λ (z : Setup). ScrubIs job.scrub z S.scrub) (sym (setup_same w (after w providers) refl))
            S.stands.scrub;
      };
      sound = devices-sound 8 w providers w.disk_faults S.sound;
    }

    -- so does one beside a pack
    packing-after : (v : Vault) (job : PackJob) → StandsPacking v job (devices holds faults ps) w →
        AreHanded qs (after w providers) → StandsPacking v job (devices holds faults qs) (after w providers)
    packing-after v job S handed = record {
      pack = S.pack;
      alone = S.alone;
      number_is = S.number_is;
      before_is = S.before_is;
      moves_are = S.moves_are;
      is_of = S.is_of;
      sound = devices-sound 8 w providers w.disk_faults S.sound;
      devices = record {
        images = shown-again holds w (after w providers) refl refl refl refl S.devices.images;
        faults = S.devices.faults;
        providers = handed;
      };
      beside = held_replaced (devices None faults ps) (plain w) qs providers v job.number S.beside
          (record { count = handed.count; each = handed.each });
      on_way = S.on_way;
      switching = S.switching;
      made = S.made;
    }

    -- so does a client
    stands-after : (o : Option Vault) (s : Option Alone) (next : ℕ) →
        StandsBy o s next (devices holds faults ps) w → AreHanded qs (after w providers) →
        StandsBy o s next (devices holds faults qs) (after w providers)
    stands-after (Some v) None next S handed =
        vault_replaced (devices holds faults ps) w qs providers v S handed
    stands-after (Some v) (Some (alone.Scrub job)) next S handed = held-after v job S handed
    stands-after (Some v) (Some (alone.Pack job)) next S handed = packing-after v job S handed
    stands-after None s next S handed = record {
      devices = record {
        images = shown-again holds w (after w providers) refl refl refl refl S.devices.images;
        faults = S.devices.faults;
        providers = handed;
      };
      sound = devices-sound 8 w providers w.disk_faults S.sound;
      closed = S.closed;
      next_job_is = S.next_job_is;
    }

-- ---- events

-- a provider that is not handed in is not replaced
pub not-handed : (event : Event) (w : State) (moment j : ℕ) (IsThere : Held → Type 0) (change : Held → Held)
    (c : Client) (holds : Option Cells) (faults : ℕ) (ps : List Provider) → IsSpelled event →
    ((outcome : Outcome) (new : State) → ReplacesIf (nat_lt j w.handed) w j IsThere change outcome new →
    Happens 8 moment w event outcome new) → length ps ≤ j →
    ClientStands c (devices holds faults ps) w →
    MakesEvent w moment event NothingHeld c (devices holds faults ps)
not-handed event w moment j IsThere change c holds faults ps spelled is beyond S =
    let count = (devices-of c.vault c.alone c.next_job (devices holds faults ps) w S).providers.count in
    let out : nat_lt j w.handed ≡ false = le-ltb j w.handed (omega (arith, count, beyond)) in
    record {
      state = w;
      spelled = spelled;
      happens = is NothingHeld w (subst (λ b. ReplacesIf b w j IsThere change NothingHeld w) (sym out) refl);
      stands = S;
    }

-- one that is handed in goes by the answer
pub handed : (event : Event) (w : State) (moment j : ℕ) (IsThere : Held → Type 0) (change : Held → Held)
    (c : Client) (holds : Option Cells) (faults : ℕ) (ps qs : List Provider) (p q : Provider)
    (answer : Bool) → IsSpelled event →
    ((outcome : Outcome) (new : State) → ReplacesIf (nat_lt j w.handed) w j IsThere change outcome new →
    Happens 8 moment w event outcome new) → j < length ps →
    slice_get ps j ≡ Some p → qs ≡ slice_set ps j q → Replaces IsThere change answer p q →
    ClientStands c (devices holds faults ps) w →
    MakesEvent w moment event (replace_outcome answer) c (devices holds faults qs)
handed event w moment j IsThere change c holds faults ps qs p q answer spelled is within p_is qs_are made S =
    let are = (devices-of c.vault c.alone c.next_job (devices holds faults ps) w S).providers in
    let inside : nat_lt j w.handed ≡ true = lt-ltb j w.handed
    (let count = are.count in omega (arith, count, within)) in
    let seen : p ≡ w.providers j =
    (let e : Some p ≡ Some (w.providers j) = sym p_is ∙ are.each j within in cc) in
    let changed : ℕ → Provider = with_provider w.providers j q in
    let after_is : AreHanded qs (after w changed) =
    subst (λ (l : List Provider). AreHanded l (after w changed)) (sym qs_are)
    (handed_on ps w (after w changed) j q are within refl (λ k. refl)) in
    record {
      state = after w changed;
      spelled = spelled;
      happens = is (replace_outcome answer) (after w changed) (subst
          (λ b. ReplacesIf b w j IsThere change (replace_outcome answer) (after w changed)) (sym inside)
          (by_answer answer (subst (λ (x : Provider). Replaces IsThere change answer x q) seen made)));
      stands = stands-after holds faults ps qs w changed c.vault c.alone c.next_job S after_is;
    }
  where
    by_answer : (answer : Bool) → Replaces IsThere change answer (w.providers j) q →
        ReplacesAt w j IsThere change (replace_outcome answer)
        (record w { providers = with_provider w.providers j q })
    by_answer true made = (q, made, refl)
    by_answer false made = (q, made, refl)
