-- Begins that the core refuses, and those that found no memory.
use Rattle.vault.proofs.Words.{Err, ℕ, Option, Some, ◌≡◌, refl, List, sym, subst, inl, inr, ◌⊎◌, rules, refusal_of_begin, Kind, State, setup_in, CoreIs, refusal_of, CoreView, BeginFault, Running, Desk, Devices, AreAtHand, KeepsAll, DeskStands, DeskMakesBegin, AreRunning, handed_same}
use Rattle.std.proofs.Common.{◌≢◌}
use Rattle.machine_defs.specs.Refusals as refusal
use Rattle.vault_core.specs.declared.wish.BeginFault.TheVariants as fault
use Rattle.vault.proofs.Ways.{stands_on}

-- a begin is refused for a cause, or found no memory
pub cause : (w : State) (kind : Kind) (own : Option ℕ) (why : BeginFault)
    → (why ≢ fault.Memory → refusal_of_begin 8 w kind own ≡ Some (refusal_of why))
    → (refusal_of_begin 8 w kind own ≡ Some (refusal_of why)) ⊎ (refusal_of why ≡ refusal.Memory)
cause w kind own fault.Memory is = inr refl
cause w kind own _ is = inl (is (search rules))

-- a begin that is refused leaves what the vault stands for
pub refused : (old new : Desk) (d : Devices) (w : State) (moment : ℕ) (kind : Kind) (own : Option ℕ)
    (why : BeginFault)
    → DeskStands old d w → new.core ≡ old.core → new.jobs.items ≡ old.jobs.items → KeepsAll old new
    → new.flight ≡ old.flight
    → (why ≢ fault.Memory → refusal_of_begin 8 w kind own ≡ Some (refusal_of why))
    → DeskMakesBegin w moment kind own (Err why) new d
refused old new d w moment kind own why stands core jobs keeps flight is = record {
  state = w;
  begins = (stands.core.is_open, cause w kind own why is, refl);
  stands = stands_on old new w w d.holds d.faults d.providers d.providers stands (record {
    records = refl;
    journal = refl;
    area = refl;
    switching = refl;
    doubt = refl;
    append = refl;
    faults = refl;
    barred = refl;
  }) (handed_same d.providers w w stands.devices.providers refl (λ j. refl))
      (subst (λ (c : CoreView). CoreIs c w) (sym core) stands.core) keeps flight
      (subst (λ (items : List Running). AreRunning (setup_in w) items w.jobs) (sym jobs) stands.jobs)
      (subst (λ (c : CoreView). AreAtHand (setup_in w) c.jobs new.jobs.items w.jobs) (sym core)
      (subst (λ (items : List Running). AreAtHand (setup_in w) old.core.jobs items w.jobs) (sym jobs)
      stands.streams));
}
