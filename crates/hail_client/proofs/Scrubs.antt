-- How a client begins a scrub.
use Rattle.hail_client.proofs.Words.{◌≡◌, ℕ, ◌+◌, ◌<◌, ◌≤◌, ◌||◌, false, List, [], Option, Some, None, Result, Ok, Err, refl, ap, sym, subst, ◌∙◌, inl, inr, arith, is_some, nat_lt, ∥∥₁_prop, alone_refusal, new_scrub, BeginsScrub, BeginScrub, Begun, Refused, Closed, Happens, Cause, State, setup_in, cond_true, cond_false, events-sound, hold_begins, held_beside, held_stands, setup_same, ScrubIs, ScrubView, scrub_left, refusal_of, BeginFault, Devices, devices, Vault, held_by, provider_count, IsUnchanged, Stands, StandsBeside, HoldsOver, by_work, IsAloneAtWork, Alone, ScrubJob, Client, client_begin_outcome, StandsBy, StandsHeld, ClientStands, MakesEvent}
use Rattle.std.proofs.Common.{true}
use Rattle.std.specs.Prelude.{length}
use Rattle.std.proofs.Math.Bool.{or-true}
use Rattle.machine_defs.specs.Refusals as refusal
use Rattle.machine_defs.specs.States as states
use Rattle.record_defs.specs.Records.{Setup}
use Rattle.hail_scrub.specs.Begins.{held}
use Rattle.vault_core.specs.declared.wish.BeginFault.TheVariants as fault
use Rattle.hail_client.specs.declared.alone.Alone.TheVariants as alone
use Rattle.hail_client.proofs.Beside.{beside-of, same-alone}
use Rattle.hail_client.proofs.Standing.{stands-of, parts-of, open-of}

-- a begin or a hold is refused as busy
abbrev pub IsBusy : Result ℕ BeginFault → Type 0
IsBusy result = result ≡ Err fault.Busy

-- beside what runs alone nothing else begins to
pub alone-busy : (w : State) (a : states.Alone) → w.is_barred ≡ false → w.alone ≡ Some a →
    (more : List Cause) → alone_refusal w more ≡ Some refusal.Busy
alone-busy w a free alone_is more = cond_false w.is_barred _ _ free
    ∙ cond_true (nat_lt 0 (length w.jobs) || is_some w.alone) _ _
    (ap (λ (x : Option states.Alone). nat_lt 0 (length w.jobs) || is_some x) alone_is ∙ or-true (nat_lt 0 (length w.jobs)))

module _ (c new : Client) (d : Devices) (w : State) (moment : ℕ) where
  -- a begin of a scrub is refused for want of memory
  pub no-memory : ClientStands c d w → c.vault ≡ new.vault → c.alone ≡ new.alone → c.next_job ≡ new.next_job →
      is_some c.vault ≡ true →
      MakesEvent w moment BeginScrub (client_begin_outcome (Some (Err fault.Memory))) new d
  no-memory S vault alone_is number opened = record {
    state = w;
    spelled = tt;
    happens = (open-of c.vault c.alone c.next_job d w S ∙ opened, inr refl, refl);
    stands = stands-of new c.vault c.alone c.next_job (sym vault) (sym alone_is) (sym number) d w S;
  }

  -- a client with no vault open begins none
  pub scrub-closed : ClientStands c d w → c.vault ≡ None → MakesEvent w moment BeginScrub Closed c d
  scrub-closed S none = record {
    state = w;
    spelled = tt;
    happens = (open-of c.vault c.alone c.next_job d w S ∙ ap (λ (o : Option Vault). is_some o) none, refl);
    stands = S;
  }

-- ---- beside a vault that is open

module _ (v next : Vault) (w : State) (d : Devices) (moment : ℕ) (why : BeginFault)
    (holds : Stands v d w → HoldsOver w d (Err why) next)
    (busy : is_some (held_by v) ≡ true → IsBusy (Err why))
    (unchanged : IsUnchanged v next) where
  -- what a hold that was refused comes to
  refused-by : (o : Option Alone) (number : ℕ) → StandsBy (Some v) o number d w →
      BeginsScrub moment w (Refused (refusal_of why)) w × StandsBy (Some next) o number d w
  refused-by None number S = (let h = holds S in ((S.desk.core.is_open, inl h.0, refl), h.1))
  refused-by (Some x) number S = (let A = beside-of v x d w S in
      let e : IsBusy (Err why) = busy (ap is_some A.held) in
      let same : why ≡ fault.Busy = cc in (
        (
          A.is_open,
          inl (alone-busy w A.what A.unbarred A.alone_is []
              ∙ sym (ap (λ (f : BeginFault). Some (refusal_of f)) same)),
          refl,
        ),
        same-alone v next x d w unchanged S,
      ))

-- a hold that was refused is a begin of a scrub that the machine refuses
pub scrub-refused : (c new : Client) (v next : Vault) (why : BeginFault) → c.vault ≡ Some v →
    new.vault ≡ Some next → new.alone ≡ c.alone → new.next_job ≡ c.next_job →
    ((w : State) (d : Devices) → Stands v d w → HoldsOver w d (Err why) next) →
    (is_some (held_by v) ≡ true → IsBusy (Err why)) → IsUnchanged v next →
    (w : State) (d : Devices) (moment : ℕ) → ClientStands c d w →
    MakesEvent w moment BeginScrub (client_begin_outcome (Some (Err why))) new d
scrub-refused c new v next why is new_is alone_is number holds busy unchanged w d moment C =
    (let h = refused-by v next w d moment why (holds w d) busy unchanged c.alone c.next_job
    (parts-of c (Some v) c.alone is refl d w C) in
    record {
      state = w;
      spelled = tt;
      happens = h.0;
      stands = stands-of new (Some next) c.alone c.next_job new_is alone_is number d w h.1;
    })

-- a vault that was held just now was not held before
was-free : (o : Option ℕ) (number : ℕ) → (is_some o ≡ true → IsBusy (Ok number)) → o ≡ None
was-free None number busy = refl
was-free (Some k) number busy = absurd (let e : IsBusy (Ok number) = busy refl in cc)

module _ (v next : Vault) (number : ℕ) (scrub : ScrubView)
    (begun : (w : State) (d : Devices) (moment : ℕ) → Stands v d w
    → ScrubIs scrub (setup_in w) (new_scrub w moment))
    (holds : (w : State) (d : Devices) → Stands v d w → HoldsOver w d (Ok number) next)
    (busy : is_some (held_by v) ≡ true → IsBusy (Ok number)) where
  abbrev job : ScrubJob
  job = record { number = number; scrub = scrub }

  begun-by : (o : Option Alone) (k : ℕ) (w : State) (d : Devices) (moment : ℕ) → StandsBy (Some v) o k d w →
      Happens 8 moment w BeginScrub (Begun number) (held w moment) × StandsHeld next job d (held w moment)
  begun-by None k w d moment S = (let h = holds w d S in
      let fine = hold_begins w moment 8 S.desk.core.is_open h.0 in (
        (S.desk.core.is_open, h.0, h.1, refl),
        record {
          scrub = new_scrub w moment;
          number_is = h.1;
          beside = subst (λ (u : State). StandsBeside next d u w.next_job)
              (sym (held_beside w moment S.desk.core.none_alone))
              (subst (StandsBeside next d (record w { next_job = w.next_job + 1 })) h.1 h.2);
          stands = held_stands w moment scrub d.providers S.desk.devices.providers (begun w d moment S);
          sound = events-sound 8 moment w S.desk.core.sound (omega arith, omega arith) BeginScrub
              (Begun w.next_job) (held w moment) tt fine;
        },
      ))
  begun-by (Some other) k w d moment S =
      absurd (let e : IsBusy (Ok number) = busy (ap is_some (beside-of v other d w S).held) in cc)

  -- a scrub and a hold are a begin of a scrub
  pub scrub-begun : (c new : Client) → c.vault ≡ Some v → new.vault ≡ Some next → new.alone ≡ Some (alone.Scrub job) →
      (w : State) (d : Devices) (moment : ℕ) → ClientStands c d w →
      MakesEvent w moment BeginScrub (client_begin_outcome (Some (Ok number))) new d
  scrub-begun c new is new_is alone_is w d moment C =
      (let h = begun-by c.alone c.next_job w d moment (parts-of c (Some v) c.alone is refl d w C) in
      record {
        state = held w moment;
        spelled = tt;
        happens = h.0;
        stands = stands-of new (Some next) (Some (alone.Scrub job)) new.next_job new_is alone_is refl d (held w moment) h.1;
      })

  -- and the scrub runs beside the vault
  pub scrub-works : held_by next ≡ Some number → 0 < scrub_left scrub → scrub.providers ≤ provider_count v →
      ∥ IsAloneAtWork (Some next) (Some (alone.Scrub job)) ∥₁
  scrub-works held_is going fits = by_work ∥∥₁_prop v.desk (λ w faults ps desk.
      let d = devices None faults ps in
      let S : Stands v d w = record { free = was-free v.held number busy; desk = desk } in
      let h = holds w d S in
      ∣ record {
        held = held_is;
        going = going;
        fits = subst (λ (n : ℕ). scrub.providers ≤ n)
            (ap (λ (s : Setup). s.n) (sym S.desk.setup ∙ sym (setup_same w (record w { next_job = w.next_job + 1 }) refl)
            ∙ h.2.desk.setup)) fits;
        scrub = record { state = w; scrub = new_scrub w 0; is = begun w d 0 S };
      } ∣₁) v.at_work
