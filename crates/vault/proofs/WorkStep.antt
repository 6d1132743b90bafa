-- The work on a stripe is a step of the machine.
use Rattle.vault.proofs.Words.{◌≡◌, ℕ, zero, suc, ◌+◌, ◌*◌, ◌^◌, ◌≤◌, cond, List, [], ◌∷◌, ◌++◌, drop, Some, None, Result, Ok, Err, refl, sym, ap, subst, ◌∙◌, arith, length-append, slice_get, slice_set, flat_map, range_with_len, append-nil, sum_by-cons, upto, Object, bytes_of_symbols, stripe_symbols, length-bytes_of_symbols, Work, actions_of, actions_left, blocks_given, symbols_given, pinned_profile, Kind, PutJob, DropJob, AuditJob, UpgradeJob, Given, Worked, Job, advanced_with, without_job, State, setup_in, worked_object, going_on, ended, next_action, number_of, next-left, ComesNext, GetTask, RepairTask, Running, Task, Turn, Desk, Devices, entries_fetched, work_blocks, OpensRows, LosesWork, TakesWork, KeepsHeard, WorksAs, CanWork, Phase, Fetching, Opened, fetches_left, works_left, is_fetch, is_work, place_in, heard_of, KeepsAll, IsFed, IsStopped, DeskStands, Comes, DeskMakesStep, Bench, bench_object, turned, IsBench, IsAtHand, IsGet, IsRepair, IsTask, IsRunning, HasFetched, worked_is, worked_other, handed_same}
use Rattle.std.proofs.Common.{length}
use Rattle.std.specs.Prelude.{vec_len, vec_capacity}
use Rattle.std.proofs.lemmas.Grind.{flat_map-append}
use Rattle.code_defs.proofs.Points.{upto_more}
use Rattle.column_defs.specs.Opened.{SeenBlock, GivesSymbols, LosesRow}
use Rattle.machine_defs.specs.Actions.{Action}
use Rattle.column_codec.specs.declared.opening.RowLost.{RowLost}
use Rattle.vault_core.specs.declared.reply.Reply.TheVariants as reply
use Rattle.vault.specs.declared.heard.Fetches.{Fetches}
use Rattle.vault.specs.declared.tasks.Task.TheVariants as task
use Rattle.vault.specs.declared.turn.Answer.TheVariants as answer
use Rattle.vault.specs.declared.turn.Turn.TheVariants as turn
use Rattle.vault.specs.Orders.{GoesOn}
use Rattle.vault.proofs.OwnObjects.{worked-own}
use Rattle.vault.proofs.Allowed.{IsAllowed, next_allowed}
use Rattle.vault.proofs.Kits.{turned_is, bench_after, bench_count, first_count, own_after, serves_after}
use Rattle.vault.proofs.Stops.{ends_by}
use Rattle.vault.proofs.Ways.{actions_same, at_place, goes_on, hands_alike}
use Rattle.vault.proofs.Worked.{all_fetched, all_counted, order_opened, enough_present, enough_symbols, last_is}

-- ---- the bytes of a get

-- the stripes below keep their symbols
kept : (id k from len : ℕ) (rows : List ℕ) (given : List Given) → from + len ≤ k
    → flat_map (λ t. bytes_of_symbols (symbols_given (Worked id k rows ∷ given) id t))
    (range_with_len from len) ≡ flat_map (λ t. bytes_of_symbols (symbols_given given id t))
    (range_with_len from len)
kept id k from zero rows given below = refl
kept id k from (suc len) rows given below =
    (λ i. bytes_of_symbols (worked_other id k id from rows given (λ e. absurd (omega (arith, below, e))) i) ++
    kept id k (from + 1) len rows given (omega (arith, below)) i)

-- the bytes of one stripe more
bytes_after : (id k : ℕ) (rows bytes : List ℕ) (given : List Given) →
    bytes ≡ flat_map (λ t. bytes_of_symbols (symbols_given given id t)) (upto k)
    → bytes ++ bytes_of_symbols rows
    ≡ flat_map (λ t. bytes_of_symbols (symbols_given (Worked id k rows ∷ given) id t)) (upto (k + 1))
bytes_after id k rows bytes given is =
    let f = λ (t : ℕ). bytes_of_symbols (symbols_given (Worked id k rows ∷ given) id t) in
    (λ i. is i ++ bytes_of_symbols (worked_is id k rows given i))
    ∙ (λ i. (sym (kept id k 0 k rows given (omega arith))) i ++ (sym (append-nil (f k))) i)
    ∙ sym (flat_map-append f (upto k) (k ∷ []))
    ∙ ap (flat_map f) (sym (upto_more k))

-- ---- the job

module _ (w : State) (job : Job) (o s : ℕ) (next : next_action w job ≡ Some (Work o s)) where
  not_allowed : (kind : Kind) → job.kind ≡ kind → IsAllowed (setup_in w).n kind (Work o s)
  not_allowed kind is = rw is at (next_allowed w job (Work o s) next)

  left_is : actions_left (setup_in w) job ≡ Work o s ∷ drop (job.place + 1) (actions_of (setup_in w) job)
  left_is = next-left w job (Work o s) next (λ e. absurd (let f : ⊥ = cc in f))

  abbrev tail : List Action
  tail = drop (job.place + 1) (actions_of (setup_in w) job)

  listed : (r : Running) → IsRunning (setup_in w) r job → IsTask (setup_in w) job (Work o s ∷ tail) r.task
  listed r running = subst (λ (l : List Action). IsTask (setup_in w) job l r.task) left_is running.task

  works_are : works_left (Work o s ∷ tail) ≡ 1 + works_left tail
  works_are = sum_by-cons (λ a. cond (is_work a) 1 0) (Work o s) tail

  fetches_are : fetches_left (Work o s ∷ tail) ≡ 0 + fetches_left tail
  fetches_are = sum_by-cons (λ a. cond (is_fetch a) 1 0) (Work o s) tail

  get_fetched : (t : GetTask) → IsGet (setup_in w) t job (Work o s ∷ tail) →
      HasFetched o s (setup_in w).n t.fetched.blocks job.given
  get_fetched t is = all_fetched (setup_in w).n o s tail t.fetched.blocks t.bench.rows.items job.given
      is.phase is.order is.in_work

  repair_fetched : (t : RepairTask) → IsRepair (setup_in w) t job (Work o s ∷ tail) →
      HasFetched o s (setup_in w).n t.blocks job.given
  repair_fetched t is =
      all_fetched (setup_in w).n o s tail t.blocks t.bench.rows.items job.given is.phase is.order is.in_work

  -- a job whose next action is work has what it opens
  can_work : (r : Running) → IsRunning (setup_in w) r job → CanWork r.task
  can_work r running = by_task r.task (listed r running)
    where
      by_task : (t : Task) → IsTask (setup_in w) job (Work o s ∷ tail) t → CanWork t
      by_task (task.Put t) is = absurd (not_allowed (PutJob is.name t.bytes) is.kind)
      by_task (task.Stream t) is = absurd (not_allowed (PutJob is.name is.bytes) is.kind)
      by_task (task.Get t) is =
          let has = get_fetched t is in
          let n = bench_count (setup_in w) is.file.profile t.bench is.bench in (
            record {
              size = is.size;
              present = rw (← n) at (enough_present (setup_in w).n o s t.fetched.blocks job.given has);
              symbols = rw (← n) at (enough_symbols (setup_in w).n o s t.fetched.blocks job.given has);
            },
            omega (
              arith,
              is.room_bytes,
              ap (λ m. m * (16 * stripe_symbols (bench_object t.bench))) works_are,
            ),
          )
      by_task task.Drop is = absurd (not_allowed (DropJob is.name) is.kind)
      by_task task.Upgrade is = absurd (not_allowed UpgradeJob is)
      by_task (task.Audit t) is = absurd (not_allowed AuditJob is.kind)
      by_task (task.Repair t) is =
          let has = repair_fetched t is in
          let n = first_count (setup_in w) t.bench t.others.items is.benches in
          record {
            size = is.size;
            present = rw (← n) at (enough_present (setup_in w).n o s t.blocks job.given has);
            symbols = rw (← n) at (enough_symbols (setup_in w).n o s t.blocks job.given has);
          }

  get_blocks : (t : GetTask) → IsGet (setup_in w) t job (Work o s ∷ tail) →
      work_blocks (task.Get t) ≡ blocks_given job.given (setup_in w).n o s
  get_blocks t is = subst (λ m. Rattle.stripe_bench.specs.Blocks.last_blocks m t.fetched.blocks ≡ blocks_given
      job.given (setup_in w).n o s) (sym (bench_count (setup_in w) is.file.profile t.bench is.bench))
      (last_is (setup_in w).n o s t.fetched.blocks job.given (get_fetched t is))

  repair_blocks : (t : RepairTask) → IsRepair (setup_in w) t job (Work o s ∷ tail) →
      work_blocks (task.Repair t) ≡ blocks_given job.given (setup_in w).n o s
  repair_blocks t is = subst (λ m. Rattle.stripe_bench.specs.Blocks.last_blocks m t.blocks ≡ blocks_given
      job.given (setup_in w).n o s) (sym (first_count (setup_in w) t.bench t.others.items is.benches))
      (last_is (setup_in w).n o s t.blocks job.given (repair_fetched t is))

  -- the bench of a get is that of the object
  get_turned : (t : GetTask) → IsGet (setup_in w) t job (Work o s ∷ tail) →
      turned t.bench o ≡ worked_object w job o
  get_turned t is = turned_is (setup_in w) is.file.profile t.bench o is.bench
      ∙ worked-own w job is.file o is.pinned is.opens.0

  -- and so is the one that a repair has at hand
  at_hand : (phase : Phase) (bench : Bench) → GoesOn (setup_in w).n phase (Work o s ∷ tail) →
      IsAtHand (setup_in w) job.pinned phase bench →
      IsBench (setup_in w) (pinned_profile (setup_in w).profile job.pinned o) bench
  at_hand (Fetching p t c) bench order at =
      subst (λ (q : ℕ). IsBench (setup_in w) (pinned_profile (setup_in w).profile job.pinned q) bench)
      (sym order.1) at
  at_hand _ bench order at = absurd order

  repair_turned : (t : RepairTask) → IsRepair (setup_in w) t job (Work o s ∷ tail) →
      turned t.bench o ≡ worked_object w job o
  repair_turned t is = turned_is (setup_in w) (pinned_profile (setup_in w).profile job.pinned o) t.bench o
      (at_hand is.phase t.bench is.order is.bench)

  -- the symbols that a job then has at hand
  abbrev rows_of : Task → List ℕ
  rows_of (task.Get t) = t.bench.rows.items
  rows_of (task.Repair t) = t.bench.rows.items
  rows_of t = []

  -- they are what the machine's work gives
  pub gives : (r : Running) (u : Task) → IsRunning (setup_in w) r job → OpensRows r.task u o s →
      GivesSymbols (worked_object w job o) s (blocks_given job.given (setup_in w).n o s) (rows_of u)
  gives r u running opens = by_task r.task u (listed r running) opens
    where
      by_task : (t u : Task) → IsTask (setup_in w) job (Work o s ∷ tail) t → OpensRows t u o s →
          GivesSymbols (worked_object w job o) s (blocks_given job.given (setup_in w).n o s) (rows_of u)
      by_task (task.Get t) (task.Get u) is opens =
          subst (λ x. GivesSymbols x s (blocks_given job.given (setup_in w).n o s) u.bench.rows.items)
          (get_turned t is) (subst (λ l. GivesSymbols (turned t.bench o) s l u.bench.rows.items)
          (get_blocks t is) opens)
      by_task (task.Repair t) (task.Repair u) is opens =
          subst (λ x. GivesSymbols x s (blocks_given job.given (setup_in w).n o s) u.bench.rows.items)
          (repair_turned t is) (subst (λ l. GivesSymbols (turned t.bench o) s l u.bench.rows.items)
          (repair_blocks t is) opens)
      by_task t u is opens = absurd opens

  -- a row that is lost is the one that the machine's work loses
  pub loses : (r : Running) (row : ℕ) → IsRunning (setup_in w) r job → LosesWork r.task o s row →
      LosesRow (worked_object w job o) s (blocks_given job.given (setup_in w).n o s) row
  loses r row running lost = by_task r.task (listed r running) lost
    where
      by_task : (t : Task) → IsTask (setup_in w) job (Work o s ∷ tail) t → LosesWork t o s row →
          LosesRow (worked_object w job o) s (blocks_given job.given (setup_in w).n o s) row
      by_task (task.Get t) is lost = (rw (get_turned t is) at
          (subst (λ (l : List SeenBlock). LosesRow (turned t.bench o) s l row) (get_blocks t is) lost))
      by_task (task.Repair t) is lost = (rw (repair_turned t is) at
          (subst (λ (l : List SeenBlock). LosesRow (turned t.bench o) s l row) (repair_blocks t is) lost))
      by_task t is lost = absurd lost

  -- ---- what a job works with, after

  module _ (rows : List ℕ) where
    abbrev next_job : Job
    next_job = advanced_with job (Worked o s rows)

    get_after : (t u : GetTask) → IsGet (setup_in w) t job (Work o s ∷ tail) →
        TakesWork (task.Get t) (task.Get u) o → u.bench.rows.items ≡ rows →
        length rows ≡ stripe_symbols (worked_object w job o) → IsGet (setup_in w) u next_job tail
    get_after t u is takes rows_is size =
        let st = setup_in w in
        let moved = takes.0 in
        let turned_to = takes.2 ∙ get_turned t is in
        let long : length u.bytes.items ≡ length t.bytes.items + 16 * length rows =
        ap length takes.3 ∙ length-append t.bytes.items (bytes_of_symbols u.bench.rows.items)
        ∙ ap (λ (m : ℕ). length t.bytes.items + m) (length-bytes_of_symbols u.bench.rows.items
        ∙ ap (λ (l : List ℕ). 16 * length l) rows_is) in
        let per : stripe_symbols (bench_object t.bench) ≡ stripe_symbols (worked_object w job o) =
        ap stripe_symbols (get_turned t is) in
        let per' : stripe_symbols (bench_object u.bench) ≡ stripe_symbols (worked_object w job o) =
        ap stripe_symbols turned_to in
        record {
          name = is.name;
          kind = is.kind;
          file = is.file;
          pinned = is.pinned;
          length_is = takes.1 ∙ is.length_is;
          bench = bench_after st is.file.profile t.bench u.bench o is.bench takes.2;
          size = ap (λ (f : Fetches). f.blocks.size) moved ∙ is.size
              ∙ sym (ap (λ (x : Object). x.profile.size) takes.2);
          job_is = ap (λ (f : Fetches). f.job) moved ∙ is.job_is;
          object_is = ap (λ (f : Fetches). f.object) moved ∙ is.object_is;
          n_is = ap (λ (f : Fetches). f.n) moved ∙ is.n_is;
          heard = ap entries_fetched moved ∙ is.heard;
          symbols = subst (λ (f : Fetches). length f.blocks.symbols.items
              ≡ length f.blocks.present.items * f.blocks.size) (sym moved) is.symbols;
          phase = Opened o s;
          order = order_opened st.n o s tail t.fetched.blocks t.bench.rows.items job.given is.phase is.order;
          in_work = rows_is ∙ worked_is o s rows job.given;
          opened = is.opened + 1;
          opens = is.opens.2;
          count = ap (λ (f : Fetches). length f.blocks.present.items) moved ∙ is.count
              ∙ ap (λ (m : ℕ). is.opened * st.n + m) (all_counted st.n o s tail is.phase is.order)
              ∙ (let e : is.opened * st.n + st.n ≡ (is.opened + 1) * st.n + 0 = omega arith in e);
          bytes = takes.3 ∙ ap (λ (l : List ℕ). t.bytes.items ++ bytes_of_symbols l) rows_is
              ∙ bytes_after is.file.id is.opened rows t.bytes.items job.given is.bytes
              ∙ (λ i. flat_map (λ t. bytes_of_symbols
              (symbols_given (Worked ((sym is.opens.0) i) ((sym is.opens.1) i) rows ∷ job.given)
              is.file.id t)) (upto (is.opened + 1)));
          few = subst (λ (f : Fetches). length f.blocks.present.items + fetches_left tail ≤ 2 ^ 32)
              (sym moved) (omega (arith, is.few, fetches_are));
          room_present = subst (λ (f : Fetches). vec_len f.blocks.present + fetches_left tail ≤ vec_capacity
              f.blocks.present) (sym moved) (omega (arith, is.room_present, fetches_are));
          room_symbols = subst (λ (f : Fetches). vec_len f.blocks.symbols + fetches_left
              tail * f.blocks.size ≤ vec_capacity f.blocks.symbols) (sym moved)
              (omega (arith, is.room_symbols, ap (λ (m : ℕ). m * t.fetched.blocks.size) fetches_are));
          room_bytes = omega (
            arith,
            is.room_bytes,
            takes.4,
            ap (λ (m : ℕ). m * (16 * stripe_symbols (bench_object t.bench))) works_are,
            long,
            size ∙ sym per,
            ap (λ (m : ℕ). works_left tail * (16 * m)) (per' ∙ sym per),
            t.bytes.ok.0,
            u.bytes.ok.0,
          );
        }

    repair_after : (t u : RepairTask) → IsRepair (setup_in w) t job (Work o s ∷ tail) →
        TakesWork (task.Repair t) (task.Repair u) o → u.bench.rows.items ≡ rows →
        IsRepair (setup_in w) u next_job tail
    repair_after t u is takes rows_is =
        let st = setup_in w in
        let emptied = takes.0 in
        record {
          kind = is.kind;
          benches = rw (← takes.2) at (own_after st t.bench u.bench t.others.items o is.benches takes.1);
          each = λ q. (rw (← takes.2) at (serves_after st (pinned_profile st.profile job.pinned q) t.bench
              u.bench t.others.items o (is.each q) takes.1));
          bench = bench_after st (pinned_profile st.profile job.pinned o) t.bench u.bench o
              (at_hand is.phase t.bench is.order is.bench) takes.1;
          size = emptied.size ∙ is.size ∙ sym (ap (λ x. x.profile.size) takes.1);
          phase = Opened o s;
          order = order_opened st.n o s tail t.blocks t.bench.rows.items job.given is.phase is.order;
          in_work = rows_is ∙ worked_is o s rows job.given;
          present = ap length emptied.present;
          symbols = ap length emptied.symbols ∙ (omega arith);
          room_present = omega (arith, is.room_present, emptied.present_room);
          room_symbols = omega (arith, is.room_symbols, emptied.symbols_room);
        }

  -- the job goes on with its stripe opened
  pub runs_on : (r r' : Running) → IsRunning (setup_in w) r job → r'.number ≡ r.number →
      OpensRows r.task r'.task o s → TakesWork r.task r'.task o →
      IsRunning (setup_in w) r' (advanced_with job (Worked o s (rows_of r'.task)))
  runs_on r r' running number opens takes = record {
    number = number ∙ running.number;
    task = subst (λ (l : List Action). IsTask (setup_in w) (advanced_with job (Worked o s (rows_of r'.task)))
        l r'.task) (sym (ap (drop (job.place + 1))
        (actions_same (setup_in w) job (job.place + 1) (Worked o s (rows_of r'.task) ∷ job.given))))
        (by_task r.task r'.task (listed r running) (gives r r'.task running opens).size takes);
  }
    where
      by_task : (t u : Task) → IsTask (setup_in w) job (Work o s ∷ tail) t →
          length (rows_of u) ≡ stripe_symbols (worked_object w job o) → TakesWork t u o →
          IsTask (setup_in w) (advanced_with job (Worked o s (rows_of u))) tail u
      by_task (task.Get t) (task.Get u) is size takes = get_after u.bench.rows.items t u is takes refl size
      by_task (task.Repair t) (task.Repair u) is size takes =
          repair_after u.bench.rows.items t u is takes refl
      by_task t u is size takes = absurd takes

-- what a job heard is as before
heard_same : (t u : Task) → KeepsHeard t u → heard_of u ≡ heard_of t
heard_same (task.Get t) (task.Get u) keeps = ap entries_fetched keeps
heard_same (task.Repair t) (task.Repair u) keeps = refl
heard_same t u keeps = absurd keeps

module _ (v : Desk) (w : State) (d : Devices) (moment number o s : ℕ) (stands : DeskStands v d w)
    (comes : Comes v.core number (Work o s)) where
  coming : ComesNext w number (Work o s) None
  coming = comes.machine w stands.core

  module _ (place : ℕ) (r : Running) (at : place_in v.jobs.items number ≡ Some place)
      (there : slice_get v.jobs.items place ≡ Some r) where
    runs : IsRunning (setup_in w) r coming.job
    runs = at_place v d w number place (Work o s) r stands coming at there

    -- there is something to open
    pub work_there : CanWork r.task
    work_there = can_work w coming.job o s coming.comes r runs

    module _ (r' : Running) (same_number : r'.number ≡ r.number) where
      -- work that is done is a step of the machine
      pub work_step : (v' : Desk) (result : Result Unit RowLost) (x : Unit) → result ≡ Ok x →
          WorksAs r.task r'.task o s result → v'.jobs.items ≡ slice_set v.jobs.items place r' →
          KeepsAll v v' → v'.flight ≡ v.flight → IsFed v.core number reply.Done v'.core
          → DeskMakesStep w moment number turn.More v' d d
      work_step v' result x is works jobs keeps_all flight fed =
          let done : OpensRows r.task r'.task o s × TakesWork r.task r'.task o =
          subst (λ (y : Result Unit RowLost). WorksAs r.task r'.task o s y) is works in
          let rows = rows_of w coming.job o s coming.comes r'.task in
          let new : State = going_on w (advanced_with coming.job (Worked o s rows)) in
          let on = runs_on w coming.job o s coming.comes r r' runs same_number done.0 done.1 in
          goes_on v v' w new d.holds d.faults moment number place d.providers d.providers (Work o s) r r'
          (advanced_with coming.job (Worked o s rows)) reply.Done stands coming
          (rows, gives w coming.job o s coming.comes r r'.task runs done.0, refl)
          (record { records = refl; journal = refl; area = refl; switching = refl; doubt = refl; append = refl; faults = refl; barred = refl })
          refl refl
          on at there jobs
          (handed_same d.providers w new stands.devices.providers refl (λ j. refl))
          keeps_all flight fed tt
          (record {
            wants = comes.wants;
            number_is = same_number;
            hand = hands_alike w coming.job (advanced_with coming.job (Worked o s rows)) (Work o s) r r'
                coming.comes (λ n name bytes no. no) refl runs on;
            kind = refl;
            profile = refl;
            place_is = refl;
          })

      -- a row that is lost ends the job
      pub lost_step : (v1 v2 : Desk) (turn : Turn) (row : ℕ) (result : Result Unit RowLost) (lost : RowLost) →
          result ≡ Err lost → row ≡ lost.row → WorksAs r.task r'.task o s result → v1.core ≡ v.core →
          v1.jobs.items ≡ slice_set v.jobs.items place r' → KeepsAll v v1 → v1.flight ≡ v.flight →
          IsStopped v1 number (reply.Lost row) (answer.Lost s row) turn v2 →
          DeskMakesStep w moment number turn v2 d d
      lost_step v1 v2 turn row result lost is row_is works core jobs keeps_all flight stopped =
          let loss =
          rw is at works in
          let new = ended w coming.job in
          ends_by v v1 v2 w new d.holds d.faults moment number place d.providers d.providers (Work o s) r r'
          (reply.Lost row) (answer.Lost s row) turn stands coming (
            refl,
            loses w coming.job o s coming.comes r row runs (rw (← row_is) at loss.0),
            refl,
          )
          (record { records = refl; journal = refl; area = refl; switching = refl; doubt = refl; append = refl; faults = refl; barred = refl })
          (ap (without_job w.jobs) (number_of w.jobs number coming.job coming.runs))
          at there
          (record {
            core = core;
            jobs = jobs;
            number = same_number;
            heard = heard_same r.task r'.task loss.1;
            keeps = keeps_all;
          })
          flight stopped refl
          (handed_same d.providers w new stands.devices.providers refl (λ j. refl)) (λ e. cc)
