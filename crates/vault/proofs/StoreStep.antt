-- A store is a step of the machine.
use Rattle.vault.proofs.Words.{◌≡◌, ℕ, ◌+◌, ◌<◌, List, ◌∷◌, drop, Option, Some, None, refl, sym, ap, subst, ◌∙◌, slice_get, slice_set, Object, symbols_in, Cells, Provider, Stores, FailsToStore, FindsNoMemory, actions_of, actions_left, symbols_given, pinned_profile, Kind, PutJob, GetJob, DropJob, AuditJob, RepairJob, UpgradeJob, Given, Job, advanced, without_job, State, setup_in, going_on, ended, with_provider, next_action, block_to_store, number_of, next-left, ComesNext, Bench, Blocks, RepairTask, Running, Task, Turn, Desk, AreHanded, devices, Phase, Opened, place_in, heard_of, KeepsAll, IsFed, IsStopped, DeskStands, Comes, DeskMakesStep, stored_block, KeepsTask, IsStorer, turned, IsBench, IsAtHand, IsInWork, IsRepair, IsTask, IsRunning, told_in, wanted_at, hand_of, HasAtHand}
use Rattle.std.proofs.Common.{length}
use Rattle.column_defs.specs.Columns.{column_of_symbols}
use Rattle.machine_defs.specs.Actions.{Action, Store}
use Rattle.vault_core.specs.declared.reply.Reply.TheVariants as reply
use Rattle.vault.specs.declared.tasks.Task.TheVariants as task
use Rattle.vault.specs.declared.turn.Answer.TheVariants as answer
use Rattle.vault.specs.declared.turn.Turn.TheVariants as turn
use Rattle.vault.specs.Orders.{GoesOn}
use Rattle.vault.proofs.Kits.{turned_is, bench_after, bench_count, first_count, own_after, serves_after, at_hand_after}
use Rattle.vault.proofs.Allowed.{IsAllowed, next_allowed}
use Rattle.vault.proofs.Stops.{IsAside, ends_by}
use Rattle.vault.proofs.Ways.{actions_same, at_place, is_handed, handed_on, goes_on}
use Rattle.vault.proofs.Hands.{task_at, waits_not}
use Rattle.vault.proofs.JobPlaces.{place_is}
use Rattle.vault.proofs.StoredStripes.{stripe_stored}

-- ---- the order of stores

module _ (n k o s : ℕ) (tail : List Action) where
  -- the symbols at hand are those of the stripe
  pub rows_are : (phase : Phase) (b : Blocks) (rows : List ℕ) (given : List Given) →
      GoesOn n phase (Store k o s ∷ tail) → IsInWork phase b rows given → rows ≡ symbols_given given o s
  rows_are (Opened p t) b rows given order work =
      work ∙ (λ i. symbols_given given (sym order.1 i) (sym order.2 i))
  rows_are _ b rows given order work = absurd order

  -- and the order goes on
  order_on : (phase : Phase) → GoesOn n phase (Store k o s ∷ tail) → GoesOn n phase tail
  order_on (Opened p t) order = order.3
  order_on _ order = absurd order

-- ---- the job

module _ (w : State) (job : Job) (k o s : ℕ) (next : next_action w job ≡ Some (Store k o s)) where
  not_allowed : (kind : Kind) → job.kind ≡ kind → IsAllowed (setup_in w).n kind (Store k o s)
  not_allowed kind is = rw is at (next_allowed w job (Store k o s) next)

  within : k < (setup_in w).n
  within = by_kind job.kind (next_allowed w job (Store k o s) next)
    where
      by_kind : (kind : Kind) → IsAllowed (setup_in w).n kind (Store k o s) → k < (setup_in w).n
      by_kind (PutJob name bytes) h = h
      by_kind RepairJob h = h
      by_kind _ h = absurd h

  abbrev after : List Action
  after = drop (job.place + 1) (actions_of (setup_in w) job)

  left_is : actions_left (setup_in w) job ≡ Store k o s ∷ after
  left_is = next-left w job (Store k o s) next (λ e. absurd (let f : ⊥ = cc in f))

  listed : (r : Running) → IsRunning (setup_in w) r job → IsTask (setup_in w) job (Store k o s ∷ after) r.task
  listed r running = subst (λ (l : List Action). IsTask (setup_in w) job l r.task) left_is running.task

  -- a job whose next action is a store has what it stores
  is_storer : (r : Running) → IsRunning (setup_in w) r job → IsStorer r.task k
  is_storer r running = by_task r.task (listed r running)
    where
      by_task : (t : Task) → IsTask (setup_in w) job (Store k o s ∷ after) t → IsStorer t k
      by_task (task.Put t) is =
          subst (λ (m : ℕ). k < m) (sym (bench_count (setup_in w) job.profile t.bench is.bench)) within
      by_task (task.Stream t) is =
          subst (λ (m : ℕ). k < m) (sym (bench_count (setup_in w) job.profile t.bench is.bench)) within
      by_task (task.Get t) is = absurd (not_allowed (GetJob is.name) is.kind)
      by_task task.Drop is = absurd (not_allowed (DropJob is.name) is.kind)
      by_task (task.Audit t) is = absurd (not_allowed AuditJob is.kind)
      by_task (task.Repair t) is =
          subst (λ (m : ℕ). k < m) (sym (first_count (setup_in w) t.bench t.others.items is.benches)) within
      by_task task.Upgrade is = absurd (not_allowed UpgradeJob is)

  -- the bench at hand of a repair is that of the object
  at_hand : (phase : Phase) (bench : Bench) → GoesOn (setup_in w).n phase (Store k o s ∷ after) →
      IsAtHand (setup_in w) job.pinned phase bench →
      IsBench (setup_in w) (pinned_profile (setup_in w).profile job.pinned o) bench
  at_hand (Opened p t) bench order at = rw order.1 at
  at_hand _ bench order at = absurd order

  -- it stores the block that the machine says
  pub block_is : (r : Running) → IsRunning (setup_in w) r job → (told : Option ℕ) →
      wanted_at (setup_in w) job.place told ≡ None → HasAtHand (setup_in w) told (hand_of r.task) job →
      stored_block r.task o k s ≡ block_to_store w job job.kind k o s
  block_is r running told wants has = by_task r.task (listed r running) (is_storer r running) has
    where
      by_task : (t : Task) → IsTask (setup_in w) job (Store k o s ∷ after) t → IsStorer t k →
          HasAtHand (setup_in w) told (hand_of t) job →
          stored_block t o k s ≡ block_to_store w job job.kind k o s
      by_task (task.Put t) is storer has =
          ap (λ (x : Object). column_of_symbols x (symbols_in x t.bytes s) k s)
          (turned_is (setup_in w) job.profile t.bench o is.bench)
          ∙ ap (λ (kind : Kind). block_to_store w job kind k o s) (sym is.kind)
      by_task (task.Stream t) is storer has =
          let x = turned_is (setup_in w) job.profile t.bench o is.bench in
          let hand = stripe_stored w job is.name is.bytes k o s is.kind next told t.at_hand wants has in
          ap (λ (rows : List ℕ). column_of_symbols (turned t.bench o) rows k s) (is.rows s hand)
          ∙ ap (λ (y : Object). column_of_symbols y (symbols_in y is.bytes s) k s) x
          ∙ ap (λ (kind : Kind). block_to_store w job kind k o s) (sym is.kind)
      by_task (task.Repair t) is storer has =
          (λ i. column_of_symbols ((turned_is (setup_in w) (pinned_profile (setup_in w).profile job.pinned o)
          t.bench o (at_hand is.phase t.bench is.order is.bench)) i) (rows_are (setup_in w).n k o s after
          is.phase t.blocks t.bench.rows.items job.given is.order is.in_work i) k s)
          ∙ ap (λ (kind : Kind). block_to_store w job kind k o s) (sym is.kind)
      by_task _ is storer has = absurd storer

  -- the job goes on
  pub runs_on : (r r' : Running) → IsRunning (setup_in w) r job → r'.number ≡ r.number →
      KeepsTask r.task r'.task o → IsRunning (setup_in w) r' (advanced job)
  runs_on r r' running number keeps = record {
    number = number ∙ running.number;
    task = rw (← tail_is) at (by_task r.task r'.task (listed r running) keeps);
  }
    where
      tail_is : actions_left (setup_in w) (advanced job) ≡ after
      tail_is = ap (drop (job.place + 1)) (actions_same (setup_in w) job (job.place + 1) job.given)

      repaired : (t u : RepairTask) → IsRepair (setup_in w) t job (Store k o s ∷ after) →
          KeepsTask (task.Repair t) (task.Repair u) o → IsRepair (setup_in w) u (advanced job) after
      repaired t u is keeps =
          record {
            kind = is.kind;
            benches = rw (← keeps.3) at (own_after (setup_in w) t.bench u.bench t.others.items o is.benches
                keeps.2);
            each = λ q. (rw (← keeps.3) at (serves_after (setup_in w) (pinned_profile (setup_in w).profile
                job.pinned q) t.bench u.bench t.others.items o (is.each q) keeps.2));
            bench = at_hand_after (setup_in w) job.pinned is.phase t.bench u.bench o is.bench keeps.2;
            size = ap (λ b. b.size) keeps.0 ∙ is.size ∙ sym (ap (λ (x : Object). x.profile.size) keeps.2);
            phase = is.phase;
            order = order_on (setup_in w).n k o s after is.phase is.order;
            in_work = subst (λ b. IsInWork is.phase b u.bench.rows.items job.given) (sym keeps.0)
                (rw (← keeps.1) at is.in_work);
            present = rw (← keeps.0) at is.present;
            symbols = rw (← keeps.0) at is.symbols;
            room_present = rw (← keeps.0) at is.room_present;
            room_symbols = rw (← keeps.0) at is.room_symbols;
          }

      by_task : (t t' : Task) → IsTask (setup_in w) job (Store k o s ∷ after) t → KeepsTask t t' o
          → IsTask (setup_in w) (advanced job) after t'
      by_task (task.Put t) (task.Put u) is keeps = record {
        name = is.name;
        kind = is.kind ∙ ap (PutJob is.name) (sym keeps.0);
        bench = bench_after (setup_in w) job.profile t.bench u.bench o is.bench keeps.1;
      }
      by_task (task.Stream t) (task.Stream u) is keeps = record {
        name = is.name;
        bytes = is.bytes;
        kind = is.kind;
        bench = bench_after (setup_in w) job.profile t.bench u.bench o is.bench keeps.2;
        rows = λ x hand. ap (λ rows. rows.items) keeps.1 ∙ is.rows x (sym keeps.0 ∙ hand)
            ∙ ap (λ y. symbols_in y is.bytes x) (sym keeps.2);
      }
      by_task (task.Repair t) (task.Repair u) is keeps = repaired t u is keeps
      by_task t u is keeps = absurd keeps

-- what a job that stores heard is nothing, before and after, and what it has at hand stays
store_keeps : (t u : Task) (o : ℕ) → KeepsTask t u o → (heard_of u ≡ heard_of t) × (hand_of u ≡ hand_of t)
store_keeps (task.Put t) (task.Put u) o keeps = (refl, refl)
store_keeps (task.Stream t) (task.Stream u) o keeps = (refl, ap (λ (h : Option ℕ). Some h) keeps.0)
store_keeps (task.Repair t) (task.Repair u) o keeps = (refl, refl)
store_keeps t u o keeps = absurd keeps

module _ (v : Desk) (w : State) (holds : Option Cells) (faults moment number k o s : ℕ) (ps : List Provider)
    (stands : DeskStands v (devices holds faults ps) w) (comes : Comes v.core number (Store k o s)) where
  coming : ComesNext w number (Store k o s) None
  coming = comes.machine w stands.core

  -- the provider is there
  pub provider_there : k < length ps
  provider_there = is_handed v (devices holds faults ps) w k stands (within w coming.job k o s coming.comes)

  module _ (place : ℕ) (r : Running) (at : place_in v.jobs.items number ≡ Some place)
      (there : slice_get v.jobs.items place ≡ Some r) where
    runs : IsRunning (setup_in w) r coming.job
    runs = at_place v (devices holds faults ps) w number place (Store k o s) r stands coming at there

    -- there is something to store
    pub storer_there : IsStorer r.task k
    storer_there = is_storer w coming.job k o s coming.comes r runs

    has : HasAtHand (setup_in w) (told_in v.core.jobs number) (hand_of r.task) coming.job
    has = stands.streams number r.task coming.job
        (task_at v.jobs.items number place r (sym (place_is v.jobs.items number) ∙ at) there) coming.runs

    module _ (r' : Running) (same_number : r'.number ≡ r.number) (keeps : KeepsTask r.task r'.task o)
        (ps' : List Provider) (p q : Provider) (p_is : slice_get ps k ≡ Some p)
        (ps_is : ps' ≡ slice_set ps k q) where
      seen : p ≡ w.providers k
      seen = cc (sym p_is ∙ stands.devices.providers.each k provider_there)

      -- a store that is done is a step of the machine
      pub store_step : (v' : Desk) → Stores o s (stored_block r.task o k s) p q →
          v'.jobs.items ≡ slice_set v.jobs.items place r' → KeepsAll v v' → v'.flight ≡ v.flight →
          IsFed v.core number reply.Done v'.core
          → DeskMakesStep w moment number turn.More v' (devices holds faults ps) (devices holds faults ps')
      store_step v' stores jobs keeps_all flight fed =
          let new : State = record (going_on w (advanced coming.job))
          { providers = with_provider w.providers k q } in
          let call : Stores o s (block_to_store w coming.job coming.job.kind k o s) (w.providers k) q =
          subst (λ (x : Provider). Stores o s (block_to_store w coming.job coming.job.kind k o s) x q) seen
          (subst (λ (b : List ℕ). Stores o s b p q)
          (block_is w coming.job k o s coming.comes r runs (told_in v.core.jobs number)
          (waits_not v.core w number coming.job stands.core coming.runs comes.wants) has) stores) in
          goes_on v v' w new holds faults moment number place ps ps' (Store k o s) r r'
          (advanced coming.job) reply.Done stands coming
          (q, call, refl)
          (record { records = refl; journal = refl; area = refl; switching = refl; doubt = refl; append = refl; faults = refl; barred = refl })
          refl refl
          (runs_on w coming.job k o s coming.comes r r' runs same_number keeps)
          at there jobs
          (subst (λ (l : List Provider). AreHanded l new) (sym ps_is)
          (handed_on ps w new k q stands.devices.providers provider_there refl (λ j. refl)))
          keeps_all flight fed tt
          (record {
            wants = comes.wants;
            number_is = same_number;
            hand = (store_keeps r.task r'.task o keeps).1;
            kind = refl;
            profile = refl;
            place_is = refl;
          })

      module _ (v1 v2 : Desk) (result : Turn) (core : v1.core ≡ v.core)
          (jobs : v1.jobs.items ≡ slice_set v.jobs.items place r') (keeps_all : KeepsAll v v1)
          (flight : v1.flight ≡ v.flight) where
        aside : IsAside v v1 place r r'
        aside = record {
          core = core;
          jobs = jobs;
          number = same_number;
          heard = (store_keeps r.task r'.task o keeps).0;
          keeps = keeps_all;
        }

        abbrev left : State
        left = record (ended w coming.job) { providers = with_provider w.providers k q }

        handed : AreHanded ps' left
        handed = rw (← ps_is) at (handed_on ps w left k q stands.devices.providers provider_there refl (λ j. refl))

        -- a store that failed ends the job
        pub failed_step : FailsToStore p q →
            IsStopped v1 number reply.Failed (answer.ProviderFault k) result v2
            → DeskMakesStep w moment number result v2 (devices holds faults ps) (devices holds faults ps')
        failed_step fails stopped =
            ends_by v v1 v2 w left holds faults moment number place ps ps' (Store k o s) r r' reply.Failed
            (answer.ProviderFault k) result stands coming
            (refl, (q, subst (λ (x : Provider). FailsToStore x q) seen fails, refl))
            (record { records = refl; journal = refl; area = refl; switching = refl; doubt = refl; append = refl; faults = refl; barred = refl })
            (ap (without_job w.jobs) (number_of w.jobs number coming.job coming.runs))
            at there aside flight stopped tt handed (λ e. cc)

        -- and so does one that found no memory
        pub no_memory_step : FindsNoMemory p q → IsStopped v1 number reply.Memory answer.Memory result v2
            → DeskMakesStep w moment number result v2 (devices holds faults ps) (devices holds faults ps')
        no_memory_step finds stopped =
            ends_by v v1 v2 w left holds faults moment number place ps ps' (Store k o s) r r' reply.Memory
            answer.Memory result stands coming
            (q, subst (λ (x : Provider). FindsNoMemory x q) seen finds, refl)
            (record { records = refl; journal = refl; area = refl; switching = refl; doubt = refl; append = refl; faults = refl; barred = refl })
            (ap (without_job w.jobs) (number_of w.jobs number coming.job coming.runs))
            at there aside flight stopped tt handed (λ e. cc)
