-- One fetch more of a get or a repair.
use Rattle.vault.proofs.Words.{◌≡◌, ℕ, ◌+◌, ◌*◌, ◌<◌, ◌≤◌, Bool, cond, List, [], ◌∷◌, ◌++◌, drop, Some, refl, sym, ap, subst, ◌∙◌, arith, length-append, append_assoc, zero-add, append-nil, mul-le-mul_left, sum_by-cons, present_blocks, length-present_blocks, Setup, Fetch, actions_of, actions_left, Kind, PutJob, GetJob, DropJob, AuditJob, RepairJob, UpgradeJob, Given, Fetched, Job, advanced_with, pinned_profile, pinned_stripes, entries_of, State, setup_in, next_action, next-left, Blocks, GetTask, RepairTask, stripe_symbols, Running, Task, given_of, Grows, GrowsFetches, TakesFetch, HasRoomFor, blocks_in, fetched_entry, fetched_entries, Phase, Fetching, fetches_left, works_left, is_fetch, is_work, bench_object, IsBench, HasFetched, IsInWork, IsGet, IsRepair, IsTask, IsRunning, fetched_in, present_more, gifts_more}
use Rattle.std.proofs.Common.{length}
use Rattle.machine_defs.specs.Actions.{Action}
use Rattle.vault.specs.declared.heard.Fetches.{Fetches}
use Rattle.vault.specs.declared.tasks.Task.TheVariants as task
use Rattle.vault.specs.Orders.{GoesOn}
use Rattle.stripe_bench.specs.Gifts.{fetched_gifts}
use Rattle.vault.proofs.Allowed.{IsAllowed, next_allowed}
use Rattle.vault.proofs.HeardAt.{entries_more, entry_next}
use Rattle.vault.proofs.Worked.{own_object}
use Rattle.vault.proofs.Ways.{actions_same}

-- ---- the stripe in work

-- of a stripe whose first block is still to be fetched there is nothing
pub none_fetched : (o s k : ℕ) (b : Blocks) (given : List Given) → k ≡ 0 → HasFetched o s k b given
none_fetched o s k b given first = record {
  flags_before = b.present.items;
  flags = [];
  symbols_before = b.symbols.items;
  symbols = [];
  older = given;
  present_is = sym (append-nil b.present.items);
  symbols_is = sym (append-nil b.symbols.items);
  count = sym first;
  size = (let e : 0 ≡ 0 * b.size = omega arith in e) ∙ ap (λ (m : ℕ). m * b.size) (sym first);
  given_is = refl;
}

module _ (n k o s : ℕ) (tail : List Action) where
  -- what is fetched of the stripe before this fetch
  fetched_before : (phase : Phase) (b : Blocks) (rows : List ℕ) (given : List Given) →
      GoesOn n phase (Fetch k o s ∷ tail) → IsInWork phase b rows given → HasFetched o s k b given
  fetched_before (Fetching p t c) b rows given order work =
      rw (← order.1) at (subst (λ (m : ℕ). HasFetched m s c b given) (sym order.2)
      (subst (λ (m : ℕ). HasFetched p m c b given) (sym order.3) work))
  fetched_before _ b rows given order work = none_fetched o s k b given order.0

  -- and the order of what is left
  pub order_after : (phase : Phase) → GoesOn n phase (Fetch k o s ∷ tail) → GoesOn n (Fetching o s (k + 1)) tail
  order_after (Fetching p t c) order =
      rw (← order.1) at (subst (λ (m : ℕ). GoesOn n (Fetching m s (c + 1)) tail) (sym order.2)
      (subst (λ (m : ℕ). GoesOn n (Fetching p m (c + 1)) tail) (sym order.3) order.4))
  order_after _ order = subst (λ (m : ℕ). GoesOn n (Fetching o s m) tail)
      (let e : 1 ≡ k + 1 = omega (arith, order.0) in e) order.1

  -- how many were fetched
  pub count_before : (phase : Phase) → GoesOn n phase (Fetch k o s ∷ tail) → fetched_in phase ≡ k
  count_before (Fetching p t c) order = sym order.1
  count_before _ order = sym order.0

  -- what is fetched of it after
  fetched_after : (b b' : Blocks) (given : List Given) (found : Bool) (block : List ℕ) →
      HasFetched o s k b given → Grows b b' found block →
      HasFetched o s (k + 1) b' (Fetched k o s (given_of found block) ∷ given)
  fetched_after b b' given found block has grows =
      let blocks = present_blocks b.size has.flags has.symbols in
      let count = zero-add (length blocks)
      ∙ length-present_blocks b.size has.flags has.symbols ∙ has.count in
      record {
        flags_before = has.flags_before;
        flags = has.flags ++ found ∷ [];
        symbols_before = has.symbols_before;
        symbols = has.symbols ++ block;
        older = has.older;
        present_is = grows.present_is ∙ ap (λ l. l ++ found ∷ []) has.present_is
            ∙ append_assoc has.flags_before has.flags (found ∷ []);
        symbols_is = grows.symbols_is ∙ ap (λ l. l ++ block) has.symbols_is
            ∙ append_assoc has.symbols_before has.symbols block;
        count = length-append has.flags (found ∷ []) ∙ ap (λ m. m + 1) has.count;
        size = length-append has.symbols block ∙ (λ i. has.size i + grows.fits i)
            ∙ (omega arith)
            ∙ ap (λ m. (k + 1) * m) (sym grows.size_is);
        given_is = (λ i. Fetched ((sym count) i) o s (given_of found block) ∷ has.given_is i)
            ∙ sym (gifts_more o s 0 blocks (given_of found block) has.older)
            ∙ ap (λ l. fetched_gifts o s 0 l has.older)
            (sym (present_more b.size has.flags has.symbols block found (has.size
            ∙ ap (λ (m : ℕ). m * b.size) (sym has.count)) grows.fits))
            ∙ ap (λ m. fetched_gifts o s 0
            (present_blocks m (has.flags ++ found ∷ []) (has.symbols ++ block)) has.older)
            (sym grows.size_is);
      }

-- ---- what a get and a repair work with, after

module _ (st : Setup) (job : Job) (k o s : ℕ) (tail : List Action) where
  all_more : (b b' : Blocks) (found : Bool) (block : List ℕ) →
      length b.symbols.items ≡ length b.present.items * b.size → Grows b b' found block →
      blocks_in b' ≡ blocks_in b ++ given_of found block ∷ []
  all_more b b' found block all grows =
      (λ i. present_blocks (grows.size_is i) (grows.present_is i) (grows.symbols_is i))
      ∙ present_more b.size b.present.items b.symbols.items block found all grows.fits

  -- with a block fetched, or none, a get is at the action behind this fetch
  pub get_after : fetches_left (Fetch k o s ∷ tail) ≡ 1 + fetches_left tail →
      works_left (Fetch k o s ∷ tail) ≡ 0 + works_left tail → k < st.n
      → (t : GetTask) (f : Fetches) (found : Bool) (block : List ℕ) → IsGet st t job (Fetch k o s ∷ tail)
      → GrowsFetches t.fetched f found block →
      IsGet st (record t { fetched = f }) (advanced_with job (Fetched k o s (given_of found block))) tail
  get_after fetches_are works_are less t f found block is grows =
      let b = t.fetched.blocks in
      let order = order_after st.n k o s tail is.phase is.order in
      let own = own_object st.n tail is.file.id (pinned_stripes st is.file) is.opened o s (k + 1) order
      is.opens in
      let count = is.count
      ∙ ap (λ m. is.opened * st.n + m) (count_before st.n k o s tail is.phase is.order) in
      let present =
      ap length grows.blocks.present_is ∙ length-append b.present.items (found ∷ []) in
      let symbols =
      ap length grows.blocks.symbols_is ∙ length-append b.symbols.items block
      ∙ ap (λ m. length b.symbols.items + m) grows.blocks.fits in
      record {
        name = is.name;
        kind = is.kind;
        file = is.file;
        pinned = is.pinned;
        length_is = is.length_is;
        bench = is.bench;
        size = grows.blocks.size_is ∙ is.size;
        job_is = grows.job ∙ is.job_is;
        object_is = grows.object ∙ is.object_is;
        n_is = grows.n ∙ is.n_is;
        heard = (λ i. fetched_entries (grows.job i) (grows.object i) (grows.n i) 0
            ((all_more b f.blocks found block is.symbols grows.blocks) i))
            ∙ entries_more t.fetched.job t.fetched.object t.fetched.n 0 (blocks_in b) (given_of found block)
            ∙ (λ i. is.heard i ++ fetched_entry (is.job_is i) ((is.object_is ∙ sym own.0) i) (is.n_is i)
            (0 + length (blocks_in b)) (given_of found block) ∷ [])
            ∙ ap (λ e. entries_of job.number job.given ++ e ∷ [])
            (entry_next job.number o st.n is.opened k _ (given_of found block) (zero-add (length (blocks_in b))
            ∙ length-present_blocks b.size b.present.items b.symbols.items ∙ count) less
            ∙ ap (λ m. record { job = job.number; given = Fetched k o m (given_of found block) })
            (sym own.1));
        symbols = symbols ∙ ap (λ m. m + b.size) is.symbols
            ∙ (omega arith) ∙ (λ i. (sym present) i * (sym grows.blocks.size_is) i);
        phase = Fetching o s (k + 1);
        order = order;
        in_work = fetched_after st.n k o s tail b f.blocks job.given found block
            (fetched_before st.n k o s tail is.phase b t.bench.rows.items job.given is.order is.in_work)
            grows.blocks;
        opened = is.opened;
        opens = is.opens;
        count = present ∙ ap (λ m. m + 1) count
            ∙ (omega arith);
        bytes = is.bytes;
        few = omega (arith, is.few);
        room_present = omega (
          arith,
          is.room_present,
          grows.blocks.present_room,
          b.present.ok.0,
          f.blocks.present.ok.0,
        );
        room_symbols = omega (
          arith,
          is.room_symbols,
          ap (λ (m : ℕ). m * b.size) fetches_are,
          grows.blocks.symbols_room,
          b.symbols.ok.0,
          f.blocks.symbols.ok.0,
          ap (λ (m : ℕ). fetches_left tail * m) grows.blocks.size_is,
        );
        room_bytes = omega (
          arith,
          is.room_bytes,
          ap (λ m. m * (16 * stripe_symbols (bench_object t.bench))) works_are,
        );
      }

  -- with a block fetched, or none, a repair is at the action behind this fetch
  pub repair_after : (t : RepairTask) (b' : Blocks) (found : Bool) (block : List ℕ) →
      IsRepair st t job (Fetch k o s ∷ tail)
      → IsBench st (pinned_profile st.profile job.pinned o) t.bench → Grows t.blocks b' found block
      → IsRepair st (record t { blocks = b' }) (advanced_with job (Fetched k o s (given_of found block))) tail
  repair_after t b' found block is here grows =
      let b = t.blocks in
      let count : fetched_in is.phase ≡ k = count_before st.n k o s tail is.phase is.order in
      let present : length b'.present.items ≡ length b.present.items + 1 = ap length grows.present_is
      ∙ length-append b.present.items (found ∷ []) in
      let symbols : length b'.symbols.items ≡ length b.symbols.items + b.size = ap length grows.symbols_is
      ∙ length-append b.symbols.items block ∙ ap (λ (m : ℕ). length b.symbols.items + m) grows.fits in
      record {
        kind = is.kind;
        benches = is.benches;
        each = is.each;
        bench = here;
        size = grows.size_is ∙ is.size;
        phase = Fetching o s (k + 1);
        order = order_after st.n k o s tail is.phase is.order;
        in_work = fetched_after st.n k o s tail b b' job.given found block
            (fetched_before st.n k o s tail is.phase b t.bench.rows.items job.given is.order is.in_work)
            grows;
        present = present ∙ ap (λ (m : ℕ). m + 1) (is.present ∙ count);
        symbols = symbols ∙ ap (λ (m : ℕ). m + b.size) (is.symbols ∙ ap (λ (m : ℕ). m * b.size) count)
            ∙ (let e : k * b.size + b.size ≡ (k + 1) * b.size = omega arith in e)
            ∙ ap (λ (m : ℕ). (k + 1) * m) (sym grows.size_is);
        room_present = omega (arith, is.room_present, grows.present_room);
        room_symbols = omega (arith, is.room_symbols, grows.symbols_room);
      }

-- ---- the job

abbrev pub after : State → Job → List Action
after w job = drop (job.place + 1) (actions_of (setup_in w) job)

module _ (w : State) (job : Job) (k o s : ℕ) (next : next_action w job ≡ Some (Fetch k o s)) where
  -- a job whose next action is a fetch has this fetch before it, and then what is behind
  pub left_is : actions_left (setup_in w) job ≡ Fetch k o s ∷ after w job
  left_is = next-left w job (Fetch k o s) next (λ e. absurd (let f : ⊥ = cc in f))

  fetches_are : fetches_left (Fetch k o s ∷ after w job) ≡ 1 + fetches_left (after w job)
  fetches_are = sum_by-cons (λ a. cond (is_fetch a) 1 0) (Fetch k o s) (after w job)

  works_are : works_left (Fetch k o s ∷ after w job) ≡ 0 + works_left (after w job)
  works_are = sum_by-cons (λ a. cond (is_work a) 1 0) (Fetch k o s) (after w job)

  -- the provider is one of the setup's
  pub within : k < (setup_in w).n
  within = by_kind job.kind (next_allowed w job (Fetch k o s) next)
    where
      by_kind : (kind : Kind) → IsAllowed (setup_in w).n kind (Fetch k o s) → k < (setup_in w).n
      by_kind (GetJob name) h = h
      by_kind RepairJob h = h
      by_kind _ h = absurd h

  -- a job whose next action is a fetch has room for it
  pub room_for : (r : Running) → IsRunning (setup_in w) r job → HasRoomFor r.task
  room_for r running = by_task r.task (subst (λ l. IsTask (setup_in w) job l r.task) left_is running.task)
    where
      not_allowed : (kind : Kind) → job.kind ≡ kind → IsAllowed (setup_in w).n kind (Fetch k o s)
      not_allowed kind is = rw is at (next_allowed w job (Fetch k o s) next)

      by_task : (t : Task) → IsTask (setup_in w) job (Fetch k o s ∷ after w job) t → HasRoomFor t
      by_task (task.Put t) is = absurd (not_allowed (PutJob is.name t.bytes) is.kind)
      by_task (task.Stream t) is = absurd (not_allowed (PutJob is.name is.bytes) is.kind)
      by_task (task.Get t) is = record {
        few = omega (arith, is.few, fetches_are);
        blocks = record {
          present = omega (arith, is.room_present, fetches_are);
          symbols = omega (arith, is.room_symbols, ap (λ m. m * t.fetched.blocks.size) fetches_are);
        };
      }
      by_task task.Drop is = absurd (not_allowed (DropJob is.name) is.kind)
      by_task task.Upgrade is = absurd (not_allowed UpgradeJob is)
      by_task (task.Audit t) is = absurd (not_allowed AuditJob is.kind)
      by_task (task.Repair t) is =
          let less : k < (setup_in w).n = not_allowed RepairJob is.kind in
          let count : fetched_in is.phase ≡ k = count_before (setup_in w).n k o s
          (after w job) is.phase is.order in
          let held : length t.blocks.symbols.items ≡ k * t.blocks.size = is.symbols
          ∙ ap (λ m. m * t.blocks.size) count in
          let below : t.blocks.size * (k + 1) ≤ t.blocks.size * (setup_in w).n =
          mul-le-mul_left t.blocks.size (let l : k + 1 ≤ (setup_in w).n = omega (arith, less) in l) in
          let most : (setup_in w).n * t.blocks.size ≤ (setup_in w).n * 128 =
          mul-le-mul_left (setup_in w).n t.blocks.fits.1 in
          record {
            present = omega (arith, is.present, is.room_present, less, count);
            symbols = omega (arith, held, below, most, is.room_symbols);
          }

  -- a repair has the bench of the object at hand
  abbrev pub HasBench : Task → Type 0
  HasBench (task.Repair t) = IsBench (setup_in w) (pinned_profile (setup_in w).profile job.pinned o) t.bench
  HasBench t = Unit {0}

  -- the job goes on with one fetch more
  pub runs_on : (r r' : Running) (found : Bool) (block : List ℕ) → IsRunning (setup_in w) r job →
      r'.number ≡ r.number → TakesFetch r.task r'.task found block → HasBench r.task →
      IsRunning (setup_in w) r' (advanced_with job (Fetched k o s (given_of found block)))
  runs_on r r' found block running number takes has = record {
    number = number ∙ running.number;
    task = subst (λ l. IsTask (setup_in w) next_job l r'.task) (sym tail_is)
        (by_task r.task r'.task
        (subst (λ l. IsTask (setup_in w) job l r.task) left_is running.task) takes has);
  }
    where
      next_job : Job
      next_job = advanced_with job (Fetched k o s (given_of found block))

      tail_is : actions_left (setup_in w) next_job ≡ after w job
      tail_is = ap (drop (job.place + 1))
          (actions_same (setup_in w) job (job.place + 1) (Fetched k o s (given_of found block) ∷ job.given))

      by_task : (t t' : Task) → IsTask (setup_in w) job (Fetch k o s ∷ after w job) t →
          TakesFetch t t' found block → HasBench t → IsTask (setup_in w) next_job (after w job) t'
      by_task (task.Get t) (task.Get u) is takes has =
          subst (λ x. IsGet (setup_in w) x next_job (after w job)) (sym takes.0) (get_after (setup_in w) job k o
          s (after w job) fetches_are works_are within t u.fetched found block is takes.1)
      by_task (task.Repair t) (task.Repair u) is takes has =
          subst (λ x. IsRepair (setup_in w) x next_job (after w job)) (sym takes.0)
          (repair_after (setup_in w) job k o s (after w job) t u.blocks found block is has takes.1)
      by_task t u is takes has = absurd takes
