-- What a get begins with.
use Rattle.vault.proofs.Words.{◌≡◌, ℕ, ◌+◌, ◌*◌, ◌≤◌, ◌^◌, List, [], ◌∷◌, ◌++◌, min, Some, None, Result, refl, sym, ap, ◌∙◌, subst, arith, append_assoc, IsTrue, is_some, flat_map, upto, Object, stripes, stripe_symbols, Setup, is_name, largest_file, File, find_file, End, open_actions, actions_left, actions_of, begin_refusal, new_job, pin_found, pinned_file, IsSpelledKind, Kind, GetJob, ToGet, first_refusal, pinned_stripes, State, setup_in, file_in, stored-file, file-spelled, setup-providers, IsKindOf, BeginFault, Bench, GetTask, Desk, Devices, present_blocks, fetched_entries, Between, OpensFrom, fetches_left, works_left, DeskStands, DeskMakesBegin, bench_object, IsBench, IsGet, IsTask, IsBenchFor, IsNewGet, stripes_on, table-like}
use Rattle.std.proofs.Common.{length}
use Rattle.std.specs.Prelude.{vec_len, vec_capacity}
use Rattle.record_defs.proofs.FilesLaws.{find-files_of}
use Rattle.machine_defs.specs.Refusals as refusal
use Rattle.vault_core.specs.declared.wish.Wish.TheVariants as wish
use Rattle.vault.specs.declared.tasks.Task.TheVariants as task
use Rattle.vault.specs.Orders.{GoesOn}
use Rattle.vault.proofs.BenchLemmas.{bench-is}
use Rattle.vault.proofs.Begun.{causes_of_name}
use Rattle.vault.proofs.Puts.{name_cause}
use Rattle.vault.proofs.StripeOrders.{get-order, get-opens, get-fetches, get-works}

-- the table finds what is in effect
pub found-in : (v : Desk) (d : Devices) (w : State) (name : List ℕ) → DeskStands v d w →
    find_file v.core.table.files name ≡ file_in w name
found-in v d w name stands =
    ap (λ files. find_file files name) (table-like v.core w stands.core).files ∙ find-files_of w.records name

-- a get of a name that is not in effect is refused for that cause
pub no-such-name : (w : State) (name : List ℕ) → IsTrue (is_name name) → file_in w name ≡ None →
    first_refusal (name_cause name ∷ causes_of_name w (GetJob name) name) ≡ Some refusal.NoSuchName
no-such-name w name named none = (rw (named, stored-file w name ∙ ap is_some none) refl)

module _ (v : Desk) (d : Devices) (w : State) (moment : ℕ) (stands : DeskStands v d w) (name : List ℕ)
    (file : File) (found : file_in w name ≡ Some file) where
  abbrev s : Setup
  s = setup_in w

  size-fits : file.size ≤ largest_file
  size-fits = (file-spelled w.records name file stands.core.sound.spelled found).1

  size-is : length (w.bytes file.id) ≡ file.size
  size-is = (stands.core.sound.files name file found).1

  abbrev total : ℕ
  total = pinned_stripes s (pinned_file w file)

  rest-is : actions_left s (new_job w moment (GetJob name))
      ≡ flat_map (open_actions s file.id) (upto total) ++ End ∷ []
  unfolding actions_of
  rest-is = rw found (append_assoc (flat_map (open_actions s file.id) (upto total)) [] (End ∷ []))

  get-task : (bench : Bench) (t : GetTask) → IsBenchFor v file.id file.size file.profile bench →
      IsNewGet v.core.next_job bench t
      → IsGet s t (new_job w moment (GetJob name)) (actions_left s (new_job w moment (GetJob name)))
  get-task bench t for_file new =
      let limits = setup-providers 8 w stands.core.sound stands.core.is_open in
      let least = limits.0 in
      let is_bench = bench-is v s file.id file.size file.profile bench stands.shaped stands.setup for_file in
      let same_length : bench.keys.file.length ≡ length (w.bytes file.id) = for_file.length_is
      ∙ sym size-is in
      let same_stripes : stripes_on bench ≡ total = (λ i. stripes (is_bench i) (same_length i)) in
      let same_n : bench.keys.file.shape.n ≡ s.n = ap (λ (o : Object). o.shape.n) is_bench in
      let rest = actions_left s (new_job w moment (GetJob name)) in
      let fetches_are : fetches_left rest ≡ total * s.n = ap fetches_left rest-is
      ∙ get-fetches s file.id total 0 in
      let works_are : works_left rest ≡ total = ap works_left rest-is ∙ get-works s file.id total 0 in
      let count_same : stripes_on bench * bench.keys.file.shape.n ≡ fetches_left rest =
      (λ i. same_stripes i * same_n i) ∙ sym fetches_are in
      let no_blocks : length t.fetched.blocks.present.items ≡ 0 = ap length new.present in
      let none : 0 ≡ 0 * t.fetched.blocks.size = omega arith in
      record {
        name = name;
        kind = refl;
        file = pinned_file w file;
        pinned = ap (pin_found (pinned_file w)) found;
        length_is = new.length_is ∙ same_length;
        bench = subst (IsBench s file.profile) (sym new.bench_is) is_bench;
        size = new.size_is ∙ ap (λ (b : Bench). b.keys.file.profile.size) (sym new.bench_is);
        job_is = new.job_is ∙ stands.core.next_job;
        object_is = new.object_is ∙ for_file.id_is;
        n_is = new.n_is ∙ same_n;
        heard = λ i. fetched_entries t.fetched.job t.fetched.object t.fetched.n 0
            (present_blocks t.fetched.blocks.size (new.present i) (new.symbols i));
        symbols = ap length new.symbols ∙ none ∙ ap (λ (k : ℕ). k * t.fetched.blocks.size) (sym no_blocks);
        phase = Between;
        order = subst (GoesOn s.n Between) (sym rest-is)
            (get-order s (omega (arith, least)) file.id (upto total));
        in_work = tt;
        opened = 0;
        opens = subst (OpensFrom file.id total 0) (sym rest-is)
            (get-opens s file.id total total 0 (omega arith));
        count = no_blocks ∙ (let e : 0 ≡ 0 * s.n + 0 = omega arith in e);
        bytes = new.bytes;
        few = omega (arith, new.few, count_same, no_blocks);
        room_present = subst (λ (k : ℕ). vec_len t.fetched.blocks.present + k ≤ vec_capacity
            t.fetched.blocks.present) count_same new.room_present;
        room_symbols = subst (λ (k : ℕ). vec_len t.fetched.blocks.symbols + k * t.fetched.blocks.size ≤
            vec_capacity t.fetched.blocks.symbols) count_same new.room_symbols;
        room_bytes = subst (λ (k : ℕ). vec_len t.bytes + k ≤ vec_capacity t.bytes)
            (λ i. (same_stripes ∙ sym works_are)
            i * (16 * stripe_symbols (bench_object (sym new.bench_is i)))) new.room_bytes;
      }

-- the lesser of two numbers is the first where it is not above the second
pub least : (a b : ℕ) → a ≤ b → min a b ≡ a
least a b le = omega (arith, le)

-- where its wish is let in, the begin of a get is one of the machine
pub get-begun : (v new : Desk) (name named : List ℕ) (file : File) (bench : Bench) (t : GetTask)
    (result : Result ℕ BeginFault) (size number : ℕ) → named ≡ name → IsSpelledKind (GetJob name)
    → find_file v.core.table.files name ≡ Some file → size ≡ min file.size (2 ^ 22)
    → IsBenchFor v file.id size file.profile bench → number ≡ v.core.next_job → IsNewGet number bench t
    → ((w : State) (d : Devices) (moment : ℕ) (kind : Kind) → DeskStands v d w
    → IsKindOf (wish.Get named) kind → IsSpelledKind kind
    → (begin_refusal 8 w kind ≡ None → IsTask (setup_in w) (new_job w moment kind)
    (actions_left (setup_in w) (new_job w moment kind)) (task.Get t))
    → DeskMakesBegin w moment kind None result new d)
    → (w : State) (d : Devices) (moment : ℕ) → DeskStands v d w
    → DeskMakesBegin w moment (GetJob name) None result new d
get-begun v new name named file bench t result size number same spelled some size_is for_size number_is is_new admits w d moment stands =
    let found = sym (found-in v d w name stands) ∙ some in
    let fits = size-fits v d w moment stands name file found in
    let for_file = subst (λ (k : ℕ). IsBenchFor v file.id k file.profile bench)
    (size_is ∙ least file.size (2 ^ 22) fits) for_size in
    let next = subst (λ (k : ℕ). IsNewGet k bench t) number_is is_new in
    admits w d moment (GetJob name) stands (λ i. ToGet (same i)) spelled
    (λ accepted. get-task v d w moment stands name file found bench t for_file next)
