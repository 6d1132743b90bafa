-- Seen blocks, one by one and all together.
use Rattle.column_codec.proofs.Words.{OnOk, nat_eq, slice_index, arith, ap, sym, refl, ◌∙◌, get_or, set, subst, OnTrue, OnFalse, range_with_len, get_or-set_same, get_or-set_other, get_or-take, length-set, length-take-le, ext_get_or, get_or_default, get_or-set_at, OnTrue_at, div-mul-add, mod-mul-add, length-map-range_with_len, get_or-map-range_with_len, value, upto, Accepts, AcceptsNone, Object, stripe_symbols, row_number, is_primary, point, points, SeenBlock, masked, bare, OpensTo, AllOpen, AcceptsRow, AcceptsNoRow, GivesSymbols, LosesRow, symbol_in, Apart, Apart-points, slice_get-get_or, ArePoints, opened_at, opened_of, AreOpened, HasRow, LosesPlace}
use Rattle.std.specs.Prelude.{All, Result, Ok, Err, ◌≡◌, ◌≢◌, ℕ, suc, ◌+◌, ◌*◌, ◌/◌, ◌%◌, ◌<◌, ◌≤◌, Bool, true, false, List, [], ◌∷◌, length, map, take, Option, None, Some, if◌then◌else◌}
use Rattle.std.proofs.Common.{eqb-true}
use Rattle.column_codec.proofs.Places.{index_within}

-- a primary block has no masks
pub bare-primary : (o : Object) (j stripe : ℕ) (block : List ℕ) → j < o.shape.l →
    block ≡ bare o j stripe block
bare-primary o j stripe block below =
    let is : is_primary o j ≡ true = grind (arith, below) in
    sym (ap (λ b. if b then block else masked o j (row_number o stripe 0) block) is)

-- a secondary block of the size without its masks
pub bare-secondary : (o : Object) (j stripe : ℕ) (block : List ℕ) → o.shape.l ≤ j →
    length block ≡ o.profile.size → masked o j (stripe * length block) block ≡ bare o j stripe block
bare-secondary o j stripe block above size =
    let is : is_primary o j ≡ false = grind (arith, above) in
    let row : stripe * o.profile.size ≡ stripe * o.profile.size + 0 = omega arith in
    ap (λ n. masked o j (stripe * n) block) size ∙ ap (λ r. masked o j r block) row
    ∙ sym (ap (λ b. if b then block else masked o j (row_number o stripe 0) block) is)

-- values put at a place of each block
pub put_here : (out : List ℕ) (f : ℕ → ℕ) (keep place j x : ℕ) → place < keep →
    j * keep + place < length out → x ≡ f j → ((i : ℕ) → i < j → get_or out (i * keep + place) 0 ≡ f i) →
    (i : ℕ) → i < j + 1 → get_or (set out (j * keep + place) x) (i * keep + place) 0 ≡ f i
put_here out f keep place j x within fits e here i below = go (nat_eq i j) refl
  where
    go : (b : Bool) → nat_eq i j ≡ b → get_or (set out (j * keep + place) x) (i * keep + place) 0 ≡ f i
    go true same =
        let at : i ≡ j = eqb-true i j same in
        get_or-set_at out (j * keep + place) (i * keep + place) x 0 (ap (λ n. n * keep + place) at) fits ∙ e
        ∙ ap f (sym at)
    go false differ =
        let other : i ≡ j → ⊥ = λ h. grind (arith, differ, h) in
        get_or-set_other out (j * keep + place) (i * keep + place) x 0
        (λ h. other (sym (div-mul-add i keep place within) ∙ ap (λ n. n / keep) h
        ∙ div-mul-add j keep place within))
        ∙ here i (let n : i ≡ j → ⊥ = other in omega arith)

-- writing one place of a block leaves those of other places in the row's blocks
pub put_others : (out : List ℕ) (keep place j x i : ℕ) → place < keep → i % keep ≢ place →
    get_or (set out (j * keep + place) x) i 0 ≡ get_or out i 0
put_others out keep place j x i within other = get_or-set_other out (j * keep + place) i x 0
    (λ h. other (ap (λ n. n % keep) h ∙ mod-mul-add j keep place within))

-- one block more that was opened
opened-here : (P : SeenBlock → Type 0) (b : Bool) (x : List ℕ) → OnTrue b (P (Some x)) → OnFalse b (P None) →
    P (if b then Some x else None)
opened-here P true x holds fails = holds
opened-here P false x holds fails = fails

-- what opened before stays, and the block at hand is opened
pub opened_more : (o : Object) (stripe : ℕ) (seen : List SeenBlock) (marks : List Bool)
    (blocks : List (List ℕ)) (j : ℕ) (s : SeenBlock) (b : Bool) (x new : List ℕ) →
    j < length marks → j < length blocks → s ≡ get_or seen j None → x ≡ new →
    OnTrue b (OpensTo o j stripe s (Some new)) → OnFalse b (OpensTo o j stripe s None) →
    ((k : ℕ) → k < j → OpensTo o k stripe (get_or seen k None) (opened_at marks blocks k)) →
    (k : ℕ) → k < j + 1 →
    OpensTo o k stripe (get_or seen k None) (opened_at (set marks j b) (set blocks j x) k)
opened_more o stripe seen marks blocks j s b x new in_marks in_blocks at is holds fails before k below =
    go (nat_eq k j) refl
  where
    here : OpensTo o j stripe (get_or seen j None) (opened_at (set marks j b) (set blocks j x) j)
    here =
        let f : opened_at (set marks j b) (set blocks j x) j ≡ (if b then Some new else None) =
        (λ i. if get_or-set_same marks j b false in_marks i then Some
        ((get_or-set_same blocks j x [] in_blocks ∙ is) i) else None) in
        subst (λ (t : SeenBlock). OpensTo o j stripe (get_or seen j None) t) (sym f)
        (subst (λ (t : SeenBlock). OpensTo o j stripe t (if b then Some new else None)) at (opened-here
        (λ t. OpensTo o j stripe s t) b new holds fails))

    go : (t : Bool) → nat_eq k j ≡ t →
        OpensTo o k stripe (get_or seen k None) (opened_at (set marks j b) (set blocks j x) k)
    go true same = subst (λ (n : ℕ). OpensTo o n stripe (get_or seen n None)
        (opened_at (set marks j b) (set blocks j x) n)) (sym (eqb-true k j same)) here
    go false differ =
        let other : k ≡ j → ⊥ = λ h. grind (arith, differ, h) in
        let f : opened_at marks blocks k ≡ opened_at (set marks j b) (set blocks j x) k =
        (λ i. if sym (get_or-set_other marks j k b false other) i then Some
        (sym (get_or-set_other blocks j k x [] other) i) else None) in
        subst (λ (t : SeenBlock). OpensTo o k stripe (get_or seen k None) t) f
        (before k (let n : k ≡ j → ⊥ = other in omega arith))

-- one block more is marked, if it is opened
pub marked_more : (o : Object) (stripe : ℕ) (seen : List SeenBlock) (marks : List Bool)
    (blocks : List (List ℕ)) (j : ℕ) (b : Bool) (x new : List ℕ) →
    j < length marks → j < length blocks → x ≡ new →
    OnTrue b (OpensTo o j stripe (get_or seen j None) (Some new)) →
    AreOpened o stripe seen marks blocks → AreOpened o stripe seen (set marks j b) (set blocks j x)
marked_more o stripe seen marks blocks j b x new in_marks in_blocks is holds before k below marked =
    go (nat_eq k j) refl
  where
    here : get_or (set marks j b) j false ≡ true →
        OpensTo o j stripe (get_or seen j None) (Some (get_or (set blocks j x) j []))
    here mark = subst (λ (t : List ℕ). OpensTo o j stripe (get_or seen j None) (Some t))
        (sym (get_or-set_same blocks j x [] in_blocks ∙ is))
        (OnTrue_at (sym (get_or-set_same marks j b false in_marks) ∙ mark) holds)

    go : (t : Bool) → nat_eq k j ≡ t →
        OpensTo o k stripe (get_or seen k None) (Some (get_or (set blocks j x) k []))
    go true same =
        let e = eqb-true k j same in
        subst (λ (n : ℕ). OpensTo o n stripe (get_or seen n None) (Some (get_or (set blocks j x) n [])))
        (sym e)
        (here (subst (λ (n : ℕ). get_or (set marks j b) n false ≡ true) e marked))
    go false differ =
        let other : k ≡ j → ⊥ = λ h. grind (arith, differ, h) in
        subst (λ (t : List ℕ). OpensTo o k stripe (get_or seen k None) (Some t))
        (sym (get_or-set_other blocks j k x [] other))
        (before k below (sym (get_or-set_other marks j k b false other) ∙ marked))

-- all sizes stay
pub all_sizes : (blocks : List (List ℕ)) (size j : ℕ) (x new : List ℕ) → j < length blocks → x ≡ new →
    length new ≡ size → ((k : ℕ) → k < length blocks → length (get_or blocks k []) ≡ size) → (k : ℕ) →
    k < length (set blocks j x) → length (get_or (set blocks j x) k []) ≡ size
all_sizes blocks size j x new inside is long each k below = go (nat_eq k j) refl
  where
    go : (t : Bool) → nat_eq k j ≡ t → length (get_or (set blocks j x) k []) ≡ size
    go true same = ap length (get_or-set_at blocks j k x [] (eqb-true k j same) inside ∙ is) ∙ long
    go false differ = ap length (get_or-set_other blocks j k x [] (λ h. grind (arith, differ, h)))
        ∙ each k (omega (arith, below, length-set blocks j x))

-- the blocks one by one are all of them
pub all-open : (o : Object) (stripe a : ℕ) (seen : List SeenBlock) (f : ℕ → SeenBlock) →
    ((k : ℕ) → k < length seen → OpensTo o (a + k) stripe (get_or seen k None) (f (a + k))) →
    AllOpen o stripe a seen (map f (range_with_len a (length seen)))
all-open o stripe a [] f each = tt
all-open o stripe a (s ∷ seen) f each = (
  subst (λ (n : ℕ). OpensTo o n stripe s (f n)) (let e : a + 0 ≡ a = omega arith in e) (each 0 (omega arith)),
  all-open o stripe (a + 1) seen f
      (λ k below. subst (λ (n : ℕ). OpensTo o n stripe (get_or seen k None) (f n))
      (let e : a + suc k ≡ a + 1 + k = omega arith in e) (each (suc k) (omega (arith, below)))),
)

-- blocks open to what each of them opens to
pub AllOpen-each : (o : Object) (stripe n : ℕ) (seen : List SeenBlock) (marks : List Bool)
    (blocks : List (List ℕ)) → length seen ≡ n →
    ((k : ℕ) → k < n → OpensTo o k stripe (get_or seen k None) (opened_at marks blocks k)) →
    AllOpen o stripe 0 seen (opened_of marks blocks n)
AllOpen-each o stripe n seen marks blocks long each =
    subst (λ (m : ℕ). AllOpen o stripe 0 seen (map (opened_at marks blocks) (range_with_len 0 m))) long
    (all-open o stripe 0 seen (opened_at marks blocks)
    (λ k below. subst (λ (m : ℕ). OpensTo o m stripe (get_or seen k None) (opened_at marks blocks m))
    (let e : k ≡ 0 + k = omega arith in e) (each k (omega (arith, below, long)))))

-- the points of all providers
pub all-points : (o : Object) (ps : List ℕ) (n : ℕ) → ArePoints o.shape.n o.shape.l o.master o.id ps →
    n ≡ o.shape.n → o.shape.n ≤ length ps → take n ps ≡ points o
all-points o ps n are e long = ap (λ m. take m ps) e
    ∙ ext_get_or 0 (take o.shape.n ps) (points o) (length-take-le o.shape.n ps long
    ∙ sym (length-map-range_with_len (point o) 0 o.shape.n))
    (λ i below. let within : i < o.shape.n = omega (arith, below, length-take-le o.shape.n ps long) in
    get_or-take o.shape.n ps i 0 within ∙ are i within
    ∙ sym (get_or-map-range_with_len (point o) 0 o.shape.n i i 0 within (omega arith)))

-- the symbols seen of a row
pub seen-map : (place : ℕ) (f : ℕ → SeenBlock) (xs : List ℕ) →
    map (λ j. symbol_in place (f j)) xs ≡ map (symbol_in place) (map f xs)
seen-map place f [] = refl
seen-map place f (x ∷ xs) = ap (λ (l : List (Option ℕ)). symbol_in place (f x) ∷ l) (seen-map place f xs)

-- the row at a place has the symbols of the opened blocks there
pub row-is : (place n m : ℕ) (marks : List Bool) (blocks : List (List ℕ)) (row nones : List (Option ℕ)) →
    m ≡ n → m ≤ length nones →
    row ≡ map (λ j. symbol_in place (opened_at marks blocks j)) (upto (length (take m nones))) →
    row ≡ map (symbol_in place) (opened_of marks blocks n)
row-is place n m marks blocks row nones e fits is =
    is ∙ ap (λ k. map (λ j. symbol_in place (opened_at marks blocks j)) (upto k))
    (length-take-le m nones fits ∙ e) ∙ seen-map place (opened_at marks blocks) (upto n)

-- the points of all providers are apart
pub Apart-all : (o : Object) (ps : List ℕ) (n : ℕ) → ArePoints o.shape.n o.shape.l o.master o.id ps →
    n ≡ o.shape.n → o.shape.n ≤ length ps → o.shape.n ≤ 256 → Apart (take n ps)
Apart-all o ps n are e long few =
    subst (λ (xs : List ℕ). Apart xs) (sym (all-points o ps n are e long)) (Apart-points o few)

-- a polynomial that is accepted for the row is accepted at the place
pub accepts-row : (o : Object) (opened : List SeenBlock) (place : ℕ) (ps : List ℕ) (row : List (Option ℕ))
    (p : List ℕ) → ps ≡ points o → row ≡ map (symbol_in place) opened →
    Accepts ps row o.shape.l o.shape.b p → AcceptsRow o opened place p
accepts-row o opened place ps row p e f h =
    subst (λ (qs : List ℕ). Accepts qs (map (symbol_in place) opened) o.shape.l o.shape.b p) e
    (subst (λ (r : List (Option ℕ)). Accepts ps r o.shape.l o.shape.b p) f h)

-- where none is accepted for the row, none is at the place
pub accepts-no_row : (o : Object) (opened : List SeenBlock) (place : ℕ) (ps : List ℕ)
    (row : List (Option ℕ)) → ps ≡ points o → row ≡ map (symbol_in place) opened →
    AcceptsNone ps row o.shape.l o.shape.b → AcceptsNoRow o opened place
accepts-no_row o opened place ps row e f h p a =
    h p (subst (λ (qs : List ℕ). Accepts qs row o.shape.l o.shape.b p) (sym e)
    (subst (λ (r : List (Option ℕ)). Accepts (points o) r o.shape.l o.shape.b p) (sym f) a))

-- rows stand where they were put, and the others stay
pub rows_more : (o : Object) (opened : List SeenBlock) (old new row : List ℕ) (place : ℕ) →
    place < o.profile.keep → AcceptsRow o opened place row →
    ((j : ℕ) → j < o.shape.l → slice_index new (j * o.profile.keep + place) ≡ value row j) →
    ((i : ℕ) → i % o.profile.keep ≢ place → slice_index new i ≡ slice_index old i) →
    ((p : ℕ) → p < place → HasRow o opened p old) → (p : ℕ) → p < place + 1 → HasRow o opened p new
rows_more o opened old new row place within accepted here others before p below = go (nat_eq p place) refl
  where
    go : (t : Bool) → nat_eq p place ≡ t → HasRow o opened p new
    go true same = subst (λ (n : ℕ). HasRow o opened n new) (sym (eqb-true p place same))
        (record { row = row; accepted = accepted; values = here })
    go false differ =
        let other : p ≡ place → ⊥ = λ h. grind (arith, differ, h) in
        let less : p < place = (let n : p ≡ place → ⊥ = other in omega arith) in
        let old_row = before p less in
        record {
          row = old_row.row;
          accepted = old_row.accepted;
          values = λ j inside. others (j * o.profile.keep + p)
              (λ h. other (sym (mod-mul-add j o.profile.keep p (omega (arith, less, within))) ∙ h))
              ∙ old_row.values j inside;
        }

-- what stands at the places of all kept rows is what the seen blocks give
pub gives : (o : Object) (stripe : ℕ) (seen opened : List SeenBlock) (symbols : List ℕ) →
    AllOpen o stripe 0 seen opened → length symbols ≡ stripe_symbols o →
    ((place : ℕ) → place < o.profile.keep → HasRow o opened place symbols) →
    GivesSymbols o stripe seen symbols
gives o stripe seen opened symbols opens long has = record {
  opened = opened;
  opens = opens;
  size = long;
  accepted = λ place within.
      let h = has place within in
      record {
        row = h.row;
        accepted = h.accepted;
        values = λ j below. slice_get-get_or symbols (j * o.profile.keep + place) 0
            (index_within o.shape.l o.profile.keep j place (length symbols) long below within)
            ∙ ap Some (h.values j below);
      };
}

-- a place without an accepted polynomial is the row that the stripe loses
pub loses : (o : Object) (stripe row : ℕ) (seen opened : List SeenBlock) → AllOpen o stripe 0 seen opened →
    LosesPlace o opened stripe row → LosesRow o stripe seen row
loses o stripe row seen opened opens h = record {
  opened = opened;
  opens = opens;
  place = h.place;
  kept = h.kept;
  number = h.number;
  lost = h.lost;
  lowest = h.lowest;
}

-- the sizes of all blocks, whatever is read past the end
pub all-blocks : (blocks : List (List ℕ)) (size : ℕ) →
    ((k : ℕ) → k < length blocks → length (get_or blocks k []) ≡ size) →
    All (λ block. length block ≡ size) blocks
all-blocks blocks size each k d below = ap length (get_or_default blocks k d [] below) ∙ each k below

-- the front of a block
pub length-front : (blocks : List (List ℕ)) (seen block : List ℕ) (j size keep : ℕ) → seen ≡ block →
    block ≡ get_or blocks j block → j < length blocks →
    ((k : ℕ) → k < length blocks → length (get_or blocks k []) ≡ size) → keep ≤ size →
    length (take keep seen) ≡ keep
length-front blocks seen block j size keep is at below sizes fits =
    let long : length seen ≡ size = ap length (is ∙ at ∙ get_or_default blocks j block [] below)
    ∙ sizes j below in
    length-take-le keep seen (omega (arith, long, fits))

-- a fact that holds where a call succeeded gives another there
pub on_ok : {T E : Type 0} (P Q : Type 0) (r : Result T E) → (P → Q) → OnOk r P → OnOk r Q
on_ok P Q (Ok x) f h = f h
on_ok P Q (Err e) f h = h
