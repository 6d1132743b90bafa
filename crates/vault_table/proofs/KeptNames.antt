-- Started puts, as they are kept.
use Rattle.vault_table.proofs.Words.{false, nat_le, if◌then◌else◌, list_all, refl, sym, ap, ◌∙◌, arith, set, get_or, nat_tests, take_all, take-append-le, drop-append-le, length-drop, drop-drop, started_from, ◌*◌, ◌/◌, ◌==◌, inl, inr, cases_Bool, cases_lt, eqb-true, leb-true, le-leb, lt-leb, is_name, get_or_append_left, get_or_at, begins_at, name_of, kept_names, is_kept_name, with_mark, marks_for, AreNameMarks}
use Rattle.std.specs.Prelude.{◌≡◌, ℕ, zero, suc, ◌+◌, ◌%◌, ◌<◌, ◌≤◌, true, List, [], ◌∷◌, ◌++◌, length, take, drop, Option, None, Some}
use Rattle.std.specs.Prelude.{slice_index_or}
use Rattle.std.proofs.Common.{length-append, length-set}

-- there are as many names as sizes
pub length-names : (sizes letters : List ℕ) → length (kept_names sizes letters) ≡ length sizes
length-names [] letters = refl
length-names (s ∷ sizes) letters = ap suc (length-names sizes (drop (s % 128) letters))

-- ---- where names begin

-- a name begins where the one before it ends
pub begins-step : (sizes : List ℕ) (k : ℕ) → k < length sizes →
    begins_at sizes (k + 1) ≡ begins_at sizes k + get_or sizes k 0 % 128
begins-step [] k l = absurd (omega (arith, l))
begins-step (s ∷ sizes) zero l = (let e : begins_at sizes 0 ≡ 0 = at-zero sizes in omega (arith, e))
  where
    at-zero : (sizes : List ℕ) → begins_at sizes 0 ≡ 0
    at-zero [] = refl
    at-zero (s ∷ sizes) = refl
begins-step (s ∷ sizes) (suc k) l =
    (let n : suc k + 1 ≡ suc (k + 1) = omega arith in let e = begins-step sizes k (omega (arith, l)) in
    ap (begins_at (s ∷ sizes)) n ∙ omega (arith, e))

-- a later name begins no earlier
pub begins-le : (sizes : List ℕ) (k n : ℕ) → k ≤ n → begins_at sizes k ≤ begins_at sizes n
begins-le [] k n l = omega arith
begins-le (s ∷ sizes) zero n l = omega arith
begins-le (s ∷ sizes) (suc k) zero l = absurd (omega (arith, l))
begins-le (s ∷ sizes) (suc k) (suc n) l = (let e = begins-le sizes k n (omega (arith, l)) in omega (arith, e))

begins-push : (sizes : List ℕ) (x k : ℕ) → k ≤ length sizes →
    begins_at (sizes ++ x ∷ []) k ≡ begins_at sizes k
begins-push [] x zero l = refl
begins-push [] x (suc k) l = absurd (omega (arith, l))
begins-push (s ∷ sizes) x zero l = refl
begins-push (s ∷ sizes) x (suc k) l = ap (λ n. s % 128 + n) (begins-push sizes x k (omega (arith, l)))

-- behind one more name, the letters end by its size later
pub begins-all : (sizes : List ℕ) (x : ℕ) → begins_at (sizes ++ x ∷ []) (length (sizes ++ x ∷ []))
    ≡ begins_at sizes (length sizes) + x % 128
begins-all [] x = omega arith
begins-all (s ∷ sizes) x = (let e = begins-all sizes x in omega (arith, e))

-- a size that is marked as done moves no name
pub begins-set : (sizes : List ℕ) (place y k : ℕ) → y % 128 ≡ get_or sizes place 0 % 128 →
    begins_at (set sizes place y) k ≡ begins_at sizes k
begins-set [] place y k e = refl
begins-set (s ∷ sizes) zero y zero e = refl
begins-set (s ∷ sizes) zero y (suc k) e = ap (λ n. n + begins_at sizes k) e
begins-set (s ∷ sizes) (suc place) y zero e = refl
begins-set (s ∷ sizes) (suc place) y (suc k) e = ap (λ n. s % 128 + n) (begins-set sizes place y k e)

-- ---- the name at a place

-- the name of a place is as many letters as its size says, from where it begins
pub name-at : (sizes letters : List ℕ) (k : ℕ) → k < length sizes →
    started_from (kept_names sizes letters) k ≡ name_of (get_or sizes k 0) (drop (begins_at sizes k) letters)
name-at [] letters k l = absurd (omega (arith, l))
name-at (s ∷ sizes) letters zero l = refl
name-at (s ∷ sizes) letters (suc k) l = name-at sizes (drop (s % 128) letters) k (omega (arith, l))
    ∙ ap (name_of (get_or sizes k 0)) (drop-drop (begins_at sizes k) (s % 128) letters)

-- past the last there is none
pub name-past : (names : List (Option (List ℕ))) (k : ℕ) → length names ≤ k → started_from names k ≡ None
name-past [] k l = refl
name-past (n ∷ names) zero l = absurd (omega (arith, l))
name-past (n ∷ names) (suc k) l = name-past names k (omega (arith, l))

-- each that is kept is a name
kept-at : (names : List (Option (List ℕ))) (k : ℕ) (o : Option (List ℕ)) →
    list_all is_kept_name names ≡ true → started_from names k ≡ o → is_kept_name o ≡ true
kept-at [] k o all is = ap is_kept_name (sym is)
kept-at (n ∷ names) zero o all is =
    (let e : is_kept_name n ≡ true = grind (arith, all) in ap is_kept_name (sym is) ∙ e)
kept-at (n ∷ names) (suc k) o all is =
    (let e : list_all is_kept_name names ≡ true = grind (arith, all) in kept-at names k o e is)

-- ---- one more name, and one that is done

-- a size and its letters put behind the others are one more name
pub names-push : (sizes letters name : List ℕ) (n : ℕ) → length letters ≡ begins_at sizes (length sizes) →
    length name ≡ n → n < 128 →
    kept_names (sizes ++ n ∷ []) (letters ++ name) ≡ kept_names sizes letters ++ Some name ∷ []
names-push [] [] name n whole size small =
    (let low : nat_le 128 n ≡ false = grind (arith, nat_tests, small) in
    let own : n % 128 ≡ length name = omega (arith, size, small) in
    ap (λ b. (if b then None else Some (take (n % 128) name)) ∷ []) low
    ∙ (ap (λ k. Some (take k name) ∷ []) own
    ∙ ap (λ t. Some t ∷ []) (take_all (length name) name (omega arith))))
names-push [] (x ∷ letters) name n whole size small = absurd (omega (arith, whole))
names-push (s ∷ sizes) letters name n whole size small =
    (let fits : s % 128 ≤ length letters = omega (arith, whole) in
    let size_left : length (drop (s % 128) letters) ≡ begins_at sizes (length sizes) =
    omega (arith, whole, length-drop (s % 128) letters) in
    rw (
      take-append-le (s % 128) letters name fits,
      drop-append-le (s % 128) letters name fits,
      names-push sizes (drop (s % 128) letters) name n size_left size small,
    ) refl)

-- names within their limits stay so with one more
pub kept-push : (names : List (Option (List ℕ))) (name : List ℕ) → list_all is_kept_name names ≡ true →
    is_kept_name (Some name) ≡ true → list_all is_kept_name (names ++ Some name ∷ []) ≡ true
kept-push [] name all is = grind (arith, is)
kept-push (n ∷ names) name all is =
    (let e : list_all is_kept_name names ≡ true = grind (arith, all) in let r = kept-push names name e is in
    grind (arith, all, r))

-- a size that is marked as done leaves no name at its place, and all others
pub names-set : (sizes letters : List ℕ) (place y : ℕ) → place < length sizes → 128 ≤ y →
    y % 128 ≡ get_or sizes place 0 % 128 → kept_names (set sizes place y) letters
    ≡ set (kept_names sizes letters) place None
names-set [] letters place y l large e = absurd (omega (arith, l))
names-set (s ∷ sizes) letters zero y l large e = rw e (grind (arith, nat_tests, large))
names-set (s ∷ sizes) letters (suc place) y l large e = ap (λ r. name_of s letters ∷ r)
    (names-set sizes (drop (s % 128) letters) place y (omega (arith, l)) large e)

-- names within their limits stay so without one
pub kept-set : (names : List (Option (List ℕ))) (place : ℕ) → list_all is_kept_name names ≡ true →
    list_all is_kept_name (set names place None) ≡ true
kept-set [] place all = refl
kept-set (n ∷ names) zero all = grind (arith, all)
kept-set (n ∷ names) (suc place) all =
    (let e : list_all is_kept_name names ≡ true = grind (arith, all) in let r = kept-set names place e in
    grind (arith, all, r))

-- ---- marks

-- a place that is inside has one value, whatever stands for none
pub get_or-any : (xs : List ℕ) (k d e : ℕ) → k < length xs → get_or xs k d ≡ get_or xs k e
get_or-any [] k d e l = absurd (omega (arith, l))
get_or-any (x ∷ xs) zero d e l = refl
get_or-any (x ∷ xs) (suc k) d e l = get_or-any xs k d e (omega (arith, l))

-- the mark of a place tells where the first name of its 64 begins
pub mark-at : (sizes marks : List ℕ) (place : ℕ) → AreNameMarks sizes marks → place < length sizes →
    slice_index_or marks (place / 64) 0 ≡ begins_at sizes (place / 64 * 64)
mark-at sizes marks place m l = (let within : place / 64 < length marks = omega (arith, m.count, l) in
    let order : 64 * (place / 64) ≡ place / 64 * 64 = omega arith in
    m.at (place / 64) within ∙ ap (begins_at sizes) order)

-- a size that is marked as done is the same size, without its mark
pub same-size : (sizes : List ℕ) (k x : ℕ) → k < length sizes → x ≡ slice_index_or sizes k x →
    (x % 128 + 128) % 128 ≡ get_or sizes k 0 % 128
same-size sizes k x l e = (let f : x ≡ get_or sizes k 0 = e ∙ get_or-any sizes k x 0 l in omega (arith, f))

-- marks are still right where a size is marked as done
pub marks-set : (sizes marks : List ℕ) (place y : ℕ) → y % 128 ≡ get_or sizes place 0 % 128 →
    AreNameMarks sizes marks → AreNameMarks (set sizes place y) marks
marks-set sizes marks place y same m = record {
  count = m.count ∙ ap marks_for (sym (length-set sizes place y));
  at = λ i l. m.at i l ∙ sym (begins-set sizes place y (64 * i) same);
}

-- one more name adds at most one mark
pub length-marked : (count at : ℕ) (marks : List ℕ) → length (with_mark count at marks) ≤ length marks + 1
length-marked count at marks = elim (cases_Bool (count % 64 == 0)) [
  | inl t ↦ (let e = length-append marks (at ∷ []) in rw t (omega (arith, e)))
  | inr f ↦ rw f (omega arith)
]

-- marks are still right with one more name, marked where it is a 64th
pub marks-push : (sizes marks : List ℕ) (x at : ℕ) → at ≡ begins_at sizes (length sizes) →
    AreNameMarks sizes marks → AreNameMarks (sizes ++ x ∷ []) (with_mark (length sizes) at marks)
marks-push sizes marks x at whole m = elim (cases_Bool (length sizes % 64 == 0)) [
  | inl t ↦ (let even : length sizes % 64 ≡ 0 = eqb-true (length sizes % 64) 0 t in
      let size = length-append sizes (x ∷ []) in
      let more = length-append marks (at ∷ []) in
      rw t (record {
        count = omega (arith, even, size, more, m.count);
        at = λ i l. elim (cases_lt i (length marks)) [
          | inl low ↦ get_or_append_left marks (at ∷ []) 0 i low
              ∙ (m.at i low ∙ sym (begins-push sizes x (64 * i) (omega (arith, even, m.count, low))))
          | inr high ↦ (let last : i ≡ length marks = omega (arith, l, high, more) in
              let here : 64 * i ≡ length sizes = omega (arith, last, m.count, even) in
              get_or_at marks at [] 0 i (sym last)
              ∙ (whole ∙ (sym (begins-push sizes x (length sizes) (omega arith))
              ∙ ap (begins_at (sizes ++ x ∷ [])) (sym here))))
        ];
      }))
  | inr f ↦ (let size = length-append sizes (x ∷ []) in
      rw f (record {
        count = grind (arith, nat_tests, f, size, m.count);
        at = λ i l. m.at i l ∙ sym (begins-push sizes x (64 * i) (omega (arith, m.count, l)));
      }))
]

-- ---- names are short

-- a name has at most 64 bytes, so its size has room below the mark
pub name-short : (name : List ℕ) → is_name name ≡ true →
    (length name < 128) × (length name % 128 ≡ length name) × (length name ≤ 64)
name-short name is = (let low : nat_le (length name) 64 ≡ true = grind (arith, is) in
    let le : length name ≤ 64 = leb-true (length name) 64 low in
    (omega (arith, le), omega (arith, le), le))

-- ---- the name at a place, by the size that was read

-- a place whose size is marked as done has no name
pub name-done : (sizes letters : List ℕ) (k x : ℕ) → k < length sizes → x ≡ slice_index_or sizes k x →
    128 ≤ x → started_from (kept_names sizes letters) k ≡ None
name-done sizes letters k x l e large = (let f : x ≡ get_or sizes k 0 = e ∙ get_or-any sizes k x 0 l in
    let done : nat_le 128 (get_or sizes k 0) ≡ true =
    le-leb 128 (get_or sizes k 0) (omega (arith, f, large)) in
    name-at sizes letters k l
    ∙ ap (λ b. if b then None else Some (take (get_or sizes k 0 % 128) (drop (begins_at sizes k) letters)))
    done)

-- a name ends within the letters
pub name-fits : (sizes : List ℕ) (k x : ℕ) → k < length sizes → x ≡ slice_index_or sizes k x → x < 128 →
    begins_at sizes k + x ≤ begins_at sizes (length sizes)
name-fits sizes k x l e small = (let f : x ≡ get_or sizes k 0 = e ∙ get_or-any sizes k x 0 l in
    let step = begins-step sizes k l in
    let le = begins-le sizes (k + 1) (length sizes) (omega (arith, l)) in
    omega (arith, f, step, le, small))

-- what is read of the letters at a place is the name of a put that was started
pub name-there : (sizes letters seen : List ℕ) (k x begin : ℕ) → k < length sizes →
    x ≡ slice_index_or sizes k x → x < 128 → begin ≡ begins_at sizes k → seen ≡ letters →
    list_all is_kept_name (kept_names sizes letters) ≡ true →
    (if is_name (take x (drop begin seen)) then Some (take x (drop begin seen)) else None)
    ≡ started_from (kept_names sizes letters) k
name-there sizes letters seen k x begin l e small at same all =
    (let f : x ≡ get_or sizes k 0 = e ∙ get_or-any sizes k x 0 l in
    let low : nat_le 128 (get_or sizes k 0) ≡ false =
    lt-leb 128 (get_or sizes k 0) (omega (arith, f, small)) in
    let own : get_or sizes k 0 % 128 ≡ x = omega (arith, f, small) in
    let here : started_from (kept_names sizes letters) k ≡ Some (take x (drop begin seen)) =
    name-at sizes letters k l
    ∙ (ap (λ b. if b then None else Some (take (get_or sizes k 0 % 128) (drop (begins_at sizes k) letters)))
    low
    ∙ (ap (λ n. Some (take n (drop (begins_at sizes k) letters))) own
    ∙ (ap (λ n. Some (take x (drop n letters))) (sym at)
    ∙ ap (λ t. Some (take x (drop begin t))) (sym same)))) in
    let is : is_name (take x (drop begin seen)) ≡ true =
    kept-at (kept_names sizes letters) k (Some (take x (drop begin seen))) all here in
    ap (λ b. if b then Some (take x (drop begin seen)) else None) is ∙ sym here)
