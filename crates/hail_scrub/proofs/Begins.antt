-- How a scrub begins.
use Rattle.hail_scrub.proofs.Words.{◌≡◌, ℕ, zero, suc, ◌+◌, ◌*◌, ◌≤◌, ◌==◌, ◌^◌, List, [], ◌∷◌, ◌++◌, length, map, Some, None, refl, ap, sym, subst, ◌∙◌, arith, slice_get, slice_index, sum_by, All, flat_map, append-nil, All-push, eq-eqb, ne_eqb, upto, Object, stripes, FileShape, Setup, Action, End, on_each_stripe, open_actions, pinned_profile, Pinned, profiled, object_of, Scrub, cond_true, cond_false, bench_kind, file_kind, Item, opening_of, item_actions, items_on, Cursor, Progress, most_steps, item_object, phase_at, size_in, scrub_view, IsItem, CursorIsAt, IsAtFirst, IsProgress, IsStripeInWork, ScrubIs, fetched_gifts, present_blocks, Given, file_providers, file_actions, IsFileAmong, AreItems, HaveOneCount, AreApart, IsFileOf, AreFilesOf, IsNewScrub}
use Rattle.std.specs.Prelude.{vec_capacity}
use Rattle.std.proofs.lemmas.Grind.{flat_map-append}
use Rattle.file_layout.specs.Files.{shaped_object}
use Rattle.hail_scrub.specs.declared.cursor.Cursor.TheVariants as cursor
use Rattle.hail_scrub.proofs.Lefts.{left-items}
use Rattle.hail_scrub.proofs.Rests.{all_get, all_map}

-- ---- files that are taken in

-- one with no stripe has no actions
file_none : (n : ℕ) (master : List ℕ) (f : FileShape) → stripes (shaped_object master f) f.length ≡ 0 →
    file_actions n master f ≡ []
file_none n master f none = ap (λ (k : ℕ). flat_map (opening_of n f.id) (upto k)) none

-- the actions of files, with one more
actions_more : (n : ℕ) (master : List ℕ) (before : List FileShape) (f : FileShape) →
    flat_map (file_actions n master) (before ++ f ∷ [])
    ≡ flat_map (file_actions n master) before ++ file_actions n master f
actions_more n master before f = flat_map-append (file_actions n master) before (f ∷ [])
    ∙ ap (λ (l : List Action). flat_map (file_actions n master) before ++ l)
    (append-nil (file_actions n master f))

-- a file with no stripe is passed over
pub taken_none : (n : ℕ) (master : List ℕ) (kinds : List Object) (before all : List FileShape)
    (items : List Item) (f : FileShape) → stripes (shaped_object master f) f.length ≡ 0 →
    AreItems n master kinds before all items → AreItems n master kinds (before ++ f ∷ []) all items
taken_none n master kinds before all items f none are = record {
  whole = are.whole;
  among = are.among;
  actions = are.actions ∙ sym (actions_more n master before f
      ∙ ap (λ (l : List Action). flat_map (file_actions n master) before ++ l) (file_none n master f none)
      ∙ append-nil (flat_map (file_actions n master) before));
}

-- any other is put behind the others
pub taken_one : (n : ℕ) (master : List ℕ) (kinds more : List Object) (before all : List FileShape)
    (items : List Item) (item : Item) (k : ℕ) →
    ((place : ℕ) (kind : Object) → slice_get kinds place ≡ Some kind → slice_get more place ≡ Some kind) →
    item.stripes ≡ stripes (shaped_object master item.file) item.file.length →
    slice_get all k ≡ Some item.file → IsItem n master more item →
    AreItems n master kinds before all items →
    AreItems n master more (before ++ item.file ∷ []) all (items ++ item ∷ [])
taken_one n master kinds more before all items item k stays count there is are = record {
  whole = All-push (IsItem n master more) items item
      (all_map (IsItem n master kinds) (IsItem n master more) items (λ x h. record {
        providers = h.providers;
        some_providers = h.some_providers;
        some = h.some;
        few = h.few;
        bench = stays x.bench (file_kind master x.file) h.bench;
      }) are.whole) is;
  among = All-push (IsFileAmong all) items item are.among (k, there);
  actions = flat_map-append (item_actions n) items (item ∷ [])
      ∙ (λ i. are.actions i ++ (append-nil (item_actions n item)
      ∙ ap (λ (m : ℕ). flat_map (opening_of n item.file.id) (upto m)) count) i)
      ∙ sym (actions_more n master before item.file);
}

-- ---- the machine's files

module _ (s : Setup) (master : List ℕ) where
  -- a file of the machine at the place of each
  file_at : (fs : List FileShape) (ps : List Pinned) (k : ℕ) (f : FileShape) → AreFilesOf s master fs ps →
      slice_get fs k ≡ Some f → (p : Pinned) × (slice_get ps k ≡ Some p) × IsFileOf s master f p
  file_at [] [] k f are there = absurd (let e : None ≡ Some f = there in cc)
  file_at (g ∷ fs) (p ∷ ps) zero f are there = (let e : Some g ≡ Some f = there in let h : g ≡ f = cc in
      (p, refl, subst (λ (x : FileShape). IsFileOf s master x p) h are.0))
  file_at (g ∷ fs) (p ∷ ps) (suc k) f are there = file_at fs ps k f are.1 there
  file_at [] (p ∷ ps) k f are there = absurd are
  file_at (g ∷ fs) [] k f are there = absurd are

  -- and back
  file_of : (fs : List FileShape) (ps : List Pinned) (k : ℕ) (p : Pinned) → AreFilesOf s master fs ps →
      slice_get ps k ≡ Some p → (f : FileShape) × (slice_get fs k ≡ Some f) × (f.id ≡ p.id)
  file_of [] [] k p are there = absurd (let e : None ≡ Some p = there in cc)
  file_of (f ∷ fs) (q ∷ ps) zero p are there = (let e : Some q ≡ Some p = there in let h : q ≡ p = cc in
      (f, refl, are.0.id_is ∙ ap (λ (x : Pinned). x.id) h))
  file_of (f ∷ fs) (q ∷ ps) (suc k) p are there = file_of fs ps k p are.1 there
  file_of [] (q ∷ ps) k p are there = absurd are
  file_of (f ∷ fs) [] k p are there = absurd are

-- the profile of a file is that of the first of its number
profile_first : (other : ℕ) (ps : List Pinned) (k : ℕ) (p : Pinned) → slice_get ps k ≡ Some p →
    ((i : ℕ) (q : Pinned) → slice_get ps i ≡ Some q → q.id ≡ p.id → i ≡ k) →
    pinned_profile other ps p.id ≡ p.profile
profile_first other [] k p there first = absurd (let e : None ≡ Some p = there in cc)
profile_first other (q ∷ ps) zero p there first = (let e : Some q ≡ Some p = there in let h : q ≡ p = cc in
    cond_true (q.id == p.id) q.profile (pinned_profile other ps p.id)
    (eq-eqb q.id p.id (ap (λ (x : Pinned). x.id) h))
    ∙ ap (λ (x : Pinned). x.profile) h)
profile_first other (q ∷ ps) (suc k) p there first =
    cond_false (q.id == p.id) q.profile (pinned_profile other ps p.id)
    (ne_eqb q.id p.id (λ same. absurd (let e : 0 ≡ suc k = first 0 q refl same in omega (arith, e))))
    ∙ profile_first other ps k p there
    (λ i r at same. let e : suc i ≡ suc k = first (suc i) r at same in omega (arith, e))

module _ (s : Setup) (master : List ℕ) (files : List FileShape) (m : Scrub) (B : IsNewScrub s master files m)
    (apart : AreApart files) where
  -- the object of each file is the machine's
  pub object_begun : (k : ℕ) (f : FileShape) → slice_get files k ≡ Some f →
      object_of (profiled s (pinned_profile s.profile m.files f.id)) f.id ≡ shaped_object master f
  object_begun k f there =
      let found = file_at s master files m.files k f B.files_are there in
      let p = found.0 in
      let same : pinned_profile s.profile m.files f.id ≡ p.profile =
      ap (pinned_profile s.profile m.files) found.2.id_is
      ∙ profile_first s.profile m.files k p found.1
      (λ i q at id. let g = file_of s master files m.files i q B.files_are at in
      apart i k g.0 f g.1 there (g.2 ∙ id ∙ sym found.2.id_is)) in
      (λ i. object_of (profiled s (same i)) (found.2.id_is i)) ∙ sym found.2.object_is

  -- so many providers the setup has
  pub count_begun : (k : ℕ) (f : FileShape) → slice_get files k ≡ Some f → f.shape.n ≡ s.n
  count_begun k f there =
      ap (λ (o : Object). o.shape.n) (file_at s master files m.files k f B.files_are there).2.object_is

-- the actions on files are the machine's
actions_of : (s : Setup) (master : List ℕ) (fs : List FileShape) (ps : List Pinned) → AreFilesOf s master fs
    ps →
    flat_map (file_actions s.n master) fs
    ≡ flat_map (λ (f : Pinned). on_each_stripe (profiled s f.profile) (length f.bytes)
    (open_actions s f.id)) ps
actions_of s master [] [] are = refl
actions_of s master (f ∷ fs) (p ∷ ps) are = (λ i. flat_map (opening_of s.n (are.0.id_is i))
    (upto (stripes (are.0.object_is i) (are.0.length_is i))) ++ actions_of s master fs ps are.1 i)
actions_of s master [] (p ∷ ps) are = absurd are
actions_of s master (f ∷ fs) [] are = absurd are

-- so many providers the setup has, where there is a file
pub count_first : (s : Setup) (master : List ℕ) (f : FileShape) (fs : List FileShape) (ps : List Pinned) →
    AreFilesOf s master (f ∷ fs) ps → f.shape.n ≡ s.n
count_first s master f fs [] are = absurd are
count_first s master f fs (p ∷ ps) are = ap (λ (o : Object). o.shape.n) are.0.object_is

-- a scrub has to do what the machine's has
pub todo_begun : (s : Setup) (master : List ℕ) (files : List FileShape) (m : Scrub) →
    IsNewScrub s master files m → (items : List Item) (kinds : List Object) →
    AreItems (file_providers files) master kinds files files items →
    m.todo ≡ items_on (file_providers files) items
todo_begun s master [] m B items kinds are = B.todo_is
    ∙ sym (ap (λ (l : List Action). l ++ End ∷ []) (are.actions ∙ actions_of s master [] m.files B.files_are))
todo_begun s master (f ∷ fs) m B items kinds are = B.todo_is
    ∙ sym (ap (λ (l : List Action). l ++ End ∷ [])
    (are.actions
    ∙ ap (λ (n : ℕ). flat_map (file_actions n master) (f ∷ fs))
    (count_first s master f fs m.files B.files_are)
    ∙ actions_of s master (f ∷ fs) m.files B.files_are))

-- all have the number of the first
pub count_all : (files : List FileShape) → HaveOneCount files → (k : ℕ) (f : FileShape) →
    slice_get files k ≡ Some f → f.shape.n ≡ file_providers files
count_all [] one k f there = absurd (let e : None ≡ Some f = there in cc)
count_all (g ∷ gs) one k f there = one k 0 f g there refl

-- what a function gives at a place of a list comes of what stands there
map_there : {X Y : Type 0} (f : X → Y) (xs : List X) (k : ℕ) (y : Y) → slice_get (map f xs) k ≡ Some y →
    (x : X) × (slice_get xs k ≡ Some x) × (f x ≡ y)
map_there f [] k y there = absurd (let e : None ≡ Some y = there in cc)
map_there f (x ∷ xs) zero y there = (x, refl, (let e : Some (f x) ≡ Some y = there in cc))
map_there f (x ∷ xs) (suc k) y there = map_there f xs k y there

-- ---- a scrub that has done nothing yet

module _ (p : Progress) (few : p.providers ≤ 16) (few_items : length p.items.items ≤ 1024)
    (at : CursorIsAt p.providers p.items.items p.off p.cursor (items_on p.providers p.items.items))
    (first : IsAtFirst p.cursor) (present : p.blocks.present.items ≡ []) (symbols : p.blocks.symbols.items ≡ [])
    (stripes_are : p.found.stripes ≡ 0) (symbols_are : (j : ℕ) → slice_index p.found.symbols j ≡ 0)
    (blocks_are : (j : ℕ) → slice_index p.found.blocks j ≡ 0) (long_symbols : length p.found.symbols ≡ 16)
    (long_blocks : length p.found.blocks ≡ 16) where
  -- it is whole
  pub new_whole : All (IsItem p.providers p.master.0 (map bench_kind p.benches.items)) p.items.items →
      p.providers ≤ vec_capacity p.blocks.present → p.providers * 128 ≤ vec_capacity p.blocks.symbols →
      p.left ≡ 1 + sum_by (λ (item : Item). item.stripes * (2 * p.providers + 1)) p.items.items →
      p.left ≤ 2 ^ 40 → IsProgress p
  new_whole items room_present room_symbols left most = record {
    few = few;
    few_items = few_items;
    items = items;
    placed = at.placed;
    present = ap length present ∙ sym at.fresh;
    symbols = ap length symbols ∙ (let e : 0 ≡ 0 * size_in p.cursor = omega arith in e)
        ∙ ap (λ (k : ℕ). k * size_in p.cursor) (sym at.fresh);
    room_present = room_present;
    room_symbols = room_symbols;
    left = left ∙ sym (left-items p.providers p.items.items) ∙ ap (most_steps p.providers) (sym at.todo_is);
    long_symbols = long_symbols;
    long_blocks = long_blocks;
    few_stripes = omega (arith, stripes_are, most);
    few_symbols = λ j. (let e = symbols_are j in omega (arith, e, most));
    few_blocks = λ j. (let e = blocks_are j in omega (arith, e, most));
  }

  -- no stripe is in work
  in_work : (given : List Given) → IsStripeInWork (phase_at p p.cursor) given
  in_work given = by_cursor p.cursor first
    where
      by_cursor : (c : Cursor) → IsAtFirst c → IsStripeInWork (phase_at p c) given
      by_cursor (cursor.Fetching spot j) is = (
        given,
        sym (λ i. fetched_gifts spot.item.file.id spot.stripe 0
            (present_blocks spot.item.file.profile.size (present i) (symbols i)) given),
      )
      by_cursor cursor.Ending is = tt
      by_cursor (cursor.Opening spot) is = absurd is
      by_cursor (cursor.Storing spot j) is = absurd is
      by_cursor cursor.Over is = absurd is

  -- and it is the machine's scrub as that begins
  pub new_scrub_is : (s : Setup) (files : List FileShape) (m : Scrub) (kinds : List Object) →
      IsNewScrub s p.master.0 files m → AreApart files →
      AreItems (file_providers files) p.master.0 kinds files files p.items.items →
      p.providers ≡ file_providers files → ScrubIs (scrub_view p) s m
  new_scrub_is s files m kinds B apart are count = record {
    few = B.few;
    objects_are = λ k x there. (
        let found = map_there (item_object p.master.0) p.items.items k x there in
        let among = all_get (IsFileAmong files) p.items.items k found.0 found.1 are.among in
        subst (λ (o : Object). object_of (profiled s (pinned_profile s.profile m.files o.id)) o.id ≡ o)
        found.2
        (object_begun s p.master.0 files m B apart among.0 found.0.file among.1)
        );
    todo_is = todo_begun s p.master.0 files m B p.items.items kinds are
        ∙ ap (λ (n : ℕ). items_on n p.items.items) (sym count) ∙ sym at.todo_is;
    in_work = in_work m.given;
    stripes_are = B.stripes_are ∙ sym stripes_are;
    symbols_are = λ j below. B.symbols_are j ∙ sym (symbols_are j);
    blocks_are = λ j below. B.blocks_are j ∙ sym (blocks_are j);
    long_symbols = long_symbols;
    long_blocks = long_blocks;
  }
