-- What a repair begins with.
use Rattle.vault.proofs.Words.{◌≡◌, ℕ, true, false, cond, List, [], ◌∷◌, inl, inr, refl, sym, ap, ◌∙◌, subst, arith, nat_lt, cases_Bool, Each, File, files_of, actions_left, machine_pins, new_job, pinned_file, pin_by, pin_each, pinned_profile, RepairJob, State, setup_in, cond_true, cond_false, setup-providers, Bench, IsBench, Devices, Desk, RepairTask, IsNewRepair, AreServed, is_served, Between, DeskStands, AreOfSetup, IsRepair, table-like}
use Rattle.std.proofs.Common.{◌==◌, length}
use Rattle.machine_defs.specs.Jobs.{Pinned}
use Rattle.vault.proofs.BenchLemmas.{bench-is, all-of-setup}
use Rattle.vault.proofs.Kits.{served, serves}
use Rattle.vault.proofs.StripeOrders.{repair-order}

-- ---- the profiles of the files that it pins

-- each of these files and one more among them have a bench
pin_served : (benches : List Bench) (f : Pinned) (fs : List Pinned) → is_served f.profile benches ≡ true →
    Each (λ (g : Pinned). is_served g.profile benches ≡ true) fs →
    Each (λ (g : Pinned). is_served g.profile benches ≡ true) (pin_by machine_pins f fs)
pin_served benches f [] own all = (own, tt)
pin_served benches f (g ∷ gs) own all =
    elim (nat_lt f.id g.id) as (λ b. Each (λ (h : Pinned). is_served h.profile benches ≡ true)
    (cond b (f ∷ g ∷ gs) (g ∷ pin_by machine_pins f gs))) [
      | true ↦ (own, all)
      | false ↦ (all.0, pin_served benches f gs own all.1)
    ]

-- so has each file that is pinned, where each in effect has one
pins_served : (w : State) (benches : List Bench) (files : List File) → AreServed files benches →
    Each (λ (g : Pinned). is_served g.profile benches ≡ true) (pin_each machine_pins (pinned_file w) files)
pins_served w benches [] all = tt
pins_served w benches (f ∷ fs) all = pin_served benches (pinned_file w f)
    (pin_each machine_pins (pinned_file w) fs) all.0 (pins_served w benches fs all.1)

-- and so has the profile of each number among them
number_served : (benches : List Bench) (other o : ℕ) (fs : List Pinned) → is_served other benches ≡ true →
    Each (λ (g : Pinned). is_served g.profile benches ≡ true) fs →
    is_served (pinned_profile other fs o) benches ≡ true
number_served benches other o [] own all = own
number_served benches other o (f ∷ fs) own all = elim (cases_Bool (f.id == o)) [
  | inl t ↦ ap (λ p. is_served p benches)
      (cond_true (f.id == o) f.profile (pinned_profile other fs o) t) ∙ all.0
  | inr n ↦ ap (λ p. is_served p benches) (cond_false (f.id == o) f.profile (pinned_profile other fs o) n)
      ∙ number_served benches other o fs own all.1
]

-- ---- the task

-- a new repair's task is at the first action of the machine's new job
pub repair-task : (v : Desk) (d : Devices) (w : State) (moment : ℕ) (t : RepairTask) → DeskStands v d w →
    IsNewRepair v t → IsRepair (setup_in w) t (new_job w moment RepairJob)
    (actions_left (setup_in w) (new_job w moment RepairJob))
repair-task v d w moment t stands new =
    let s = setup_in w in
    let n_is : s.n ≡ v.setup.n = ap (λ x. x.n) stands.setup in
    let profile_is : v.setup.profile ≡ s.profile = sym (ap (λ x. x.profile) stands.setup) in
    let least = (setup-providers 8 w stands.core.sound stands.core.is_open).0 in
    let own = bench-is v s new.own.0 new.own.1 v.setup.profile t.bench stands.shaped stands.setup new.own.2 in
    let are : AreOfSetup s (t.bench ∷ t.others.items) =
    ((v.setup.profile, own), all-of-setup v s stands.shaped stands.setup t.others.items new.others) in
    record {
      kind = refl;
      benches = are;
      each = λ o. serves s (pinned_profile s.profile (new_job w moment RepairJob).pinned o)
          (t.bench ∷ t.others.items) are (number_served (t.bench ∷ t.others.items) s.profile o
          (new_job w moment RepairJob).pinned (served s s.profile (t.bench ∷ t.others.items)
          (inl (subst (λ (p : ℕ). IsBench s p t.bench) profile_is own)))
          (pins_served w (t.bench ∷ t.others.items) (files_of w.records)
          (subst (λ (fs : List File). AreServed fs (t.bench ∷ t.others.items))
          (table-like v.core w stands.core).files new.served)));
      size = new.size;
      phase = Between;
      bench = tt;
      order = repair-order s (omega arith) (new_job w moment RepairJob) refl;
      in_work = tt;
      present = ap length new.present;
      symbols = ap length new.symbols ∙ (omega arith);
      room_present = omega (arith, n_is, new.room_present);
      room_symbols = rw (← n_is) at new.room_symbols;
    }
