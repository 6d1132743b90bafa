-- A fetch is a step of the machine.
use Rattle.vault.proofs.Words.{◌≡◌, ℕ, ◌+◌, ◌*◌, ◌<◌, ◌≤◌, Bool, List, ◌∷◌, Option, Some, None, inl, inr, refl, sym, ap, subst, ◌∙◌, arith, slice_get, slice_set, cases_eq, Object, Cells, Provider, Fetch, pinned_profile, Kind, PutJob, DropJob, AuditJob, UpgradeJob, Fetched, Job, advanced_with, pinned_stripes, State, setup_in, worked_object, going_on, with_provider, next_action, ComesNext, Setup, Bench, IsBench, RepairTask, Running, Task, Desk, given_of, devices, TakesFetch, HasRoomFor, fetch_size, place_in, KeepsAll, IsFed, DeskStands, Comes, DeskMakesStep, pin_in, profile_or, TakesUp, Turns, TurnsTo, Phase, Fetching, fetched_in, AreOfSetup, HasBenchFor, IsAtHand, IsRepair, IsTask, IsRunning}
use Rattle.std.proofs.Common.{length}
use Rattle.std.specs.Prelude.{vec_capacity}
use Rattle.device_defs.specs.ProviderCalls.{Fetches}
use Rattle.vault_core.specs.declared.reply.Reply.TheVariants as reply
use Rattle.vault.specs.declared.tasks.Task.TheVariants as task
use Rattle.vault.specs.declared.turn.Turn.TheVariants as turn
use Rattle.vault.specs.Orders.{GoesOn}
use Rattle.vault.proofs.OwnObjects.{worked-own}
use Rattle.vault.proofs.Kits.{turned_is, bench_size, by_size, served, own_swapped, serves_swapped}
use Rattle.vault.proofs.Allowed.{IsAllowed, next_allowed}
use Rattle.vault.proofs.Fetched.{HasBench, none_fetched, order_after, count_before, left_is, after, room_for, runs_on, within}
use Rattle.vault.proofs.Worked.{own_object}
use Rattle.vault.proofs.Ways.{at_place, is_handed, handed_on, goes_on, hands_alike}

-- ---- the bench of the stripe in work

module _ (w : State) (job : Job) (k o s : ℕ) (next : next_action w job ≡ Some (Fetch k o s)) where
  abbrev own : ℕ
  own = pinned_profile (setup_in w).profile job.pinned o

  not_allowed : (kind : Kind) → job.kind ≡ kind → IsAllowed (setup_in w).n kind (Fetch k o s)
  not_allowed kind is = rw is at (next_allowed w job (Fetch k o s) next)

  listed : (r : Running) → IsRunning (setup_in w) r job →
      IsTask (setup_in w) job (Fetch k o s ∷ after w job) r.task
  listed r running = rw (left_is w job k o s next) at running.task

  -- behind the first fetch of a stripe a repair has the bench of its object at hand
  at_hand : (phase : Phase) (bench : Bench) → (k ≡ 0 → ⊥) →
      GoesOn (setup_in w).n phase (Fetch k o s ∷ after w job) →
      IsAtHand (setup_in w) job.pinned phase bench → IsBench (setup_in w) own bench
  at_hand (Fetching p t c) bench later order at =
      subst (λ (q : ℕ). IsBench (setup_in w) (pinned_profile (setup_in w).profile job.pinned q) bench)
      (sym order.2) at
  at_hand _ bench later order at = absurd (later order.0)

  -- with a bench taken up the benches are of the setup still, and serve what they served
  taken_own : (profile : ℕ) (t u : RepairTask) → TakesUp profile t u →
      AreOfSetup (setup_in w) (t.bench ∷ t.others.items) → AreOfSetup (setup_in w) (u.bench ∷ u.others.items)
  taken_own profile t u takes are = elim takes.taken.swapped [
    | inl same ↦ subst (AreOfSetup (setup_in w)) (λ i. (sym same.0) i ∷ (sym same.1) i) are
    | inr swapped ↦ own_swapped (setup_in w) t.bench t.others.items u.bench u.others.items swapped are
  ]

  taken_serves : (profile p : ℕ) (t u : RepairTask) → TakesUp profile t u →
      HasBenchFor (setup_in w) p (t.bench ∷ t.others.items) →
      HasBenchFor (setup_in w) p (u.bench ∷ u.others.items)
  taken_serves profile p t u takes serve = elim takes.taken.swapped [
    | inl same ↦ subst (HasBenchFor (setup_in w) p) (λ i. (sym same.0) i ∷ (sym same.1) i) serve
    | inr swapped ↦ serves_swapped (setup_in w) p t.bench t.others.items u.bench u.others.items swapped serve
  ]

  -- the bench that was taken up is that of the object
  taken_is : (t u : RepairTask) → TakesUp own t u →
      IsRepair (setup_in w) t job (Fetch k o s ∷ after w job) → IsBench (setup_in w) own u.bench
  taken_is t u takes is =
      let are = taken_own own t u takes is.benches in
      by_size (setup_in w) own are.0.0 u.bench are.0.1
      (takes.taken.served (served (setup_in w) own (t.bench ∷ t.others.items) (is.each o)))

  -- with its bench taken up a repair is at the first fetch of a stripe
  taken_up : (t u : RepairTask) → k ≡ 0 → TakesUp own t u →
      IsRepair (setup_in w) t job (Fetch k o s ∷ after w job) →
      IsRepair (setup_in w) u job (Fetch k o s ∷ after w job)
  taken_up t u first takes is =
      let n = (setup_in w).n in
      let count : fetched_in is.phase ≡ k = count_before n k o s (after w job) is.phase is.order in
      let none : length t.blocks.symbols.items ≡ 0 = is.symbols
      ∙ ap (λ (m : ℕ). m * t.blocks.size) (count ∙ first) ∙ zero_times t.blocks.size in
      record {
        kind = is.kind;
        benches = taken_own own t u takes is.benches;
        each = λ q. taken_serves own (pinned_profile (setup_in w).profile job.pinned q) t u takes (is.each q);
        size = takes.size;
        phase = Fetching o s k;
        bench = taken_is t u takes is;
        order = (
          within w job k o s next,
          refl,
          refl,
          refl,
          order_after n k o s (after w job) is.phase is.order,
        );
        in_work = none_fetched o s k u.blocks job.given first;
        present = ap (λ v. length v.items) takes.present ∙ is.present ∙ count;
        symbols = ap (λ v. length v.items) takes.symbols ∙ none ∙ sym (zero_times u.blocks.size)
            ∙ ap (λ (m : ℕ). m * u.blocks.size) (sym first);
        room_present = subst (λ v. (setup_in w).n ≤ vec_capacity v) (sym takes.present) is.room_present;
        room_symbols = subst (λ v. (setup_in w).n * 128 ≤ vec_capacity v) (sym takes.symbols) is.room_symbols;
      }
    where
      zero_times : (m : ℕ) → 0 * m ≡ 0
      zero_times m = omega arith

  -- what a job works with, once the bench is at hand
  record IsTurned (t : Task) : Type 0 where
    task : IsTask (setup_in w) job (Fetch k o s ∷ after w job) t
    bench : HasBench w job k o s next t
    size : fetch_size t ≡ (worked_object w job o).profile.size

  got : (t : Task) → IsTask (setup_in w) job (Fetch k o s ∷ after w job) t → HasBench w job k o s next t →
      IsTurned t
  got (task.Put t) is has = absurd (not_allowed (PutJob is.name t.bytes) is.kind)
  got (task.Stream t) is has = absurd (not_allowed (PutJob is.name is.bytes) is.kind)
  got (task.Get t) is has = record {
    task = is;
    bench = tt;
    size = is.size ∙ ap (λ (x : Object). x.profile.size) (turned_is (setup_in w) is.file.profile t.bench o
        is.bench ∙ worked-own w job is.file o is.pinned
        (own_object (setup_in w).n (after w job) is.file.id (pinned_stripes (setup_in w) is.file) is.opened
        o s (k + 1) (order_after (setup_in w).n k o s (after w job) is.phase is.order) is.opens).0);
  }
  got task.Drop is has = absurd (not_allowed (DropJob is.name) is.kind)
  got (task.Audit t) is has = absurd (not_allowed AuditJob is.kind)
  got (task.Repair t) is has =
      record { task = is; bench = has; size = is.size ∙ bench_size (setup_in w) own t.bench has }
  got task.Upgrade is has = absurd (not_allowed UpgradeJob is)

  first_turned : (t u : Task) → k ≡ 0 → Turns own t u →
      IsTask (setup_in w) job (Fetch k o s ∷ after w job) t → IsTurned u
  first_turned (task.Repair t) (task.Repair u) first turns is =
      got (task.Repair u) (taken_up t u first turns is) (taken_is t u turns is)
  first_turned (task.Put t) u first turns is = absurd (not_allowed (PutJob is.name t.bytes) is.kind)
  first_turned (task.Stream t) u first turns is = absurd (not_allowed (PutJob is.name is.bytes) is.kind)
  first_turned (task.Get t) u first turns is = rw (← turns) at (got (task.Get t) is tt)
  first_turned task.Drop u first turns is = absurd (not_allowed (DropJob is.name) is.kind)
  first_turned (task.Audit t) u first turns is = absurd (not_allowed AuditJob is.kind)
  first_turned task.Upgrade u first turns is = absurd (not_allowed UpgradeJob is)
  first_turned (task.Repair t) _ first turns is = absurd (let e : ⊥ = cc in e)

  later_turned : (t : Task) → (k ≡ 0 → ⊥) → IsTask (setup_in w) job (Fetch k o s ∷ after w job) t → IsTurned t
  later_turned (task.Put t) later is = absurd (not_allowed (PutJob is.name t.bytes) is.kind)
  later_turned (task.Stream t) later is = absurd (not_allowed (PutJob is.name is.bytes) is.kind)
  later_turned (task.Get t) later is = got (task.Get t) is tt
  later_turned task.Drop later is = absurd (not_allowed (DropJob is.name) is.kind)
  later_turned (task.Audit t) later is = absurd (not_allowed AuditJob is.kind)
  later_turned (task.Repair t) later is = got (task.Repair t) is (at_hand is.phase t.bench later is.order is.bench)
  later_turned task.Upgrade later is = absurd (not_allowed UpgradeJob is)

  -- a job whose next action is a fetch has the bench of its object at hand, once it turned to it
  turned_to : (profile : ℕ) (r m : Running) → IsRunning (setup_in w) r job → profile ≡ own →
      TurnsTo k profile r.task m.task → IsTurned m.task
  turned_to profile r m running is turns = elim (cases_eq k 0) [
    | inl first ↦ first_turned r.task m.task first (rw is at (turns.first first)) (listed r running)
    | inr later ↦ (rw (← (turns.other later)) at (later_turned r.task later (listed r running)))
  ]

module _ (v : Desk) (w : State) (holds : Option Cells) (faults moment number k o s : ℕ) (ps : List Provider)
    (stands : DeskStands v (devices holds faults ps) w) (comes : Comes v.core number (Fetch k o s)) where
  coming : ComesNext w number (Fetch k o s) None
  coming = comes.machine w stands.core

  -- the provider is there
  pub provider_there : k < length ps
  provider_there = is_handed v (devices holds faults ps) w k stands (within w coming.job k o s coming.comes)

  module _ (place : ℕ) (r : Running) (at : place_in v.jobs.items number ≡ Some place)
      (there : slice_get v.jobs.items place ≡ Some r) where
    runs : IsRunning (setup_in w) r coming.job
    runs = at_place v (devices holds faults ps) w number place (Fetch k o s) r stands coming at there

    module _ (m : Running) (profile : ℕ) (same_number : m.number ≡ r.number)
        (profile_is : profile ≡ profile_or v.setup.profile (pin_in v.core number o))
        (turns : TurnsTo k profile r.task m.task) where
      turned : IsTurned w coming.job k o s coming.comes m.task
      turned = turned_to w coming.job k o s coming.comes profile r m runs
          (profile_is ∙ Rattle.vault.proofs.Pins.profile_is v.core w number o v.setup.profile coming.job
          stands.core coming.runs (ap (λ (x : Setup). x.profile) (sym stands.setup))) turns

      runs_turned : IsRunning (setup_in w) m coming.job
      runs_turned = record {
        number = same_number ∙ runs.number;
        task = rw (← (left_is w coming.job k o s coming.comes)) at turned.task;
      }

      -- there is room for the block
      pub room_there : HasRoomFor m.task
      room_there = room_for w coming.job k o s coming.comes m runs_turned

      -- the fetch is a step of the machine
      pub fetch_step : (v' : Desk) (ps' : List Provider) (p q : Provider) (r' : Running) (found : Bool)
          (block : List ℕ) → r'.number ≡ m.number → TakesFetch m.task r'.task found block →
          Fetches (fetch_size m.task) o s p (given_of found block) q → slice_get ps k ≡ Some p →
          ps' ≡ slice_set ps k q
          → v'.jobs.items ≡ slice_set v.jobs.items place r' → KeepsAll v v' → v'.flight ≡ v.flight →
          IsFed v.core number reply.Done v'.core
          → DeskMakesStep w moment number turn.More v' (devices holds faults ps) (devices holds faults ps')
      fetch_step v' ps' p q r' found block number_is takes fetches p_is ps_is jobs keeps flight fed =
          let job = coming.job in
          let next_job = advanced_with job (Fetched k o s (given_of found block)) in
          let new : State = record (going_on w next_job) { providers = with_provider w.providers k q } in
          let seen : p ≡ w.providers k = cc (sym p_is ∙ stands.devices.providers.each k provider_there) in
          let call : Fetches (worked_object w job o).profile.size o s (w.providers k) (given_of found block) q =
          subst (λ (x : Provider). Fetches (worked_object w job o).profile.size o s x (given_of found block) q)
          seen
          (subst (λ (m : ℕ). Fetches m o s p (given_of found block) q)
          turned.size fetches) in
          let on = runs_on w job k o s coming.comes m r' found block runs_turned number_is takes
          turned.bench in
          goes_on v v' w new holds faults moment number place ps ps' (Fetch k o s) r r' next_job reply.Done
          stands coming
          (given_of found block, (q, call, refl))
          (record { records = refl; journal = refl; area = refl; switching = refl; doubt = refl; append = refl; faults = refl; barred = refl })
          refl refl
          on at there jobs
          (subst (λ (l : List Provider). Rattle.opening_defs.specs.Opened.AreHanded l new) (sym ps_is)
          (handed_on ps w new k q stands.devices.providers provider_there refl (λ j. refl)))
          keeps flight fed tt
          (record {
            wants = comes.wants;
            number_is = number_is ∙ same_number;
            hand = hands_alike w job next_job (Fetch k o s) r r' coming.comes (λ n name bytes no. no) refl runs
                on;
            kind = refl;
            profile = refl;
            place_is = refl;
          })
