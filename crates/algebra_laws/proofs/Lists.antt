-- Plain facts on lists: what stands where in them, and lists that are the same.
use Rattle.algebra_laws.proofs.Words.{◌≡◌, ◌≢◌, ℕ, zero, suc, ◌+◌, ◌-◌, ◌<◌, ◌≤◌, ◌⊎◌, List, [], ◌∷◌, ◌++◌, length, take, drop, map, get_or, replicate, Some, None, refl, ap, sym, subst, ◌∙◌, inl, inr, arith, slice_get, slice_set, flat_map, range_with_len, cases_eq, length-take-le}
use Rattle.std.proofs.lemmas.Slice.{take-put_mid}
use Rattle.std.proofs.Math.Seq.{take-append_seam, take-append-add, take-take}
use borrow.Rule.Slice.PartMut.{put_mid}

-- ---- an element at a place

-- an element of the second of two lists stands behind the first
pub get_behind : {X : Type 0} (xs ys : List X) (k : ℕ) (x : X) → slice_get ys k ≡ Some x →
    slice_get (xs ++ ys) (length xs + k) ≡ Some x
get_behind [] ys k x h = subst (λ n. slice_get ys n ≡ Some x) (let e : k ≡ 0 + k = omega arith in e) h
get_behind (z ∷ xs) ys k x h = subst (λ n. slice_get (z ∷ xs ++ ys) n ≡ Some x)
    (let e : suc (length xs + k) ≡ suc (length xs) + k = omega arith in e) (get_behind xs ys k x h)

-- at a place of a list something stands
pub get_within : {X : Type 0} (xs : List X) (k : ℕ) → k < length xs → None ≡ slice_get xs k → ⊥
get_within [] k l e = omega arith
get_within (x ∷ xs) zero l e = let h : None ≡ Some x = e in cc
get_within (x ∷ xs) (suc k) l e = get_within xs k (omega arith) e

-- from an element on
pub drop-get : {X : Type 0} (xs : List X) (p : ℕ) (x : X) → slice_get xs p ≡ Some x →
    drop p xs ≡ x ∷ drop (p + 1) xs
drop-get [] p x h = absurd (let e : None ≡ Some x = h in cc)
drop-get (y ∷ ys) zero x h = (let e : Some y ≡ Some x = h in let f : y ≡ x = cc in ap (λ z. z ∷ ys) f)
drop-get (y ∷ ys) (suc p) x h =
    drop-get ys p x h ∙ ap (λ n. x ∷ drop n (y ∷ ys)) (let e : suc (p + 1) ≡ suc p + 1 = omega arith in e)

-- what was set at a place stands there
pub get-set_same : {X : Type 0} (xs : List X) (j : ℕ) (x : X) → j < length xs →
    slice_get (slice_set xs j x) j ≡ Some x
get-set_same [] j x l = absurd (omega (arith, l))
get-set_same (y ∷ xs) zero x l = refl
get-set_same (y ∷ xs) (suc j) x l = get-set_same xs j x (omega (arith, l))

-- the same, where something stood before
pub get-set_there : {X : Type 0} (xs : List X) (j : ℕ) (x y : X) → slice_get xs j ≡ Some x →
    slice_get (slice_set xs j y) j ≡ Some y
get-set_there [] j x y h = absurd (let e : None ≡ Some x = h in cc)
get-set_there (z ∷ xs) zero x y h = refl
get-set_there (z ∷ xs) (suc j) x y h = get-set_there xs j x y h

-- and the rest stands as before
pub get-set_other : {X : Type 0} (xs : List X) (j k : ℕ) (x : X) → k ≢ j →
    slice_get (slice_set xs j x) k ≡ slice_get xs k
get-set_other [] j k x differ = refl
get-set_other (y ∷ xs) zero zero x differ = absurd (differ refl)
get-set_other (y ∷ xs) zero (suc k) x differ = refl
get-set_other (y ∷ xs) (suc j) zero x differ = refl
get-set_other (y ∷ xs) (suc j) (suc k) x differ = get-set_other xs j k x (λ e. differ (ap suc e))

-- zeros are read as what lies past the end
pub get_or-zeros : (n i : ℕ) → ◌≡◌ {A = ℕ} (get_or (replicate n 0) i 0) 0
get_or-zeros zero i = refl
get_or-zeros (suc n) zero = refl
get_or-zeros (suc n) (suc i) = get_or-zeros n i

-- the front of a list that was put before another
pub take-front : {X : Type 0} (xs rest : List X) (n : ℕ) → length xs ≡ n → take n (xs ++ rest) ≡ xs
take-front xs rest n e = rw (← e) (take-append_seam xs rest)

-- the front, and then what was read behind it
pub take-put_mid_behind : (xs ys : List ℕ) (a k n : ℕ) → a ≤ length xs → n ≤ length ys →
    take (a + n) (put_mid a k xs ys) ≡ take a xs ++ take n ys
take-put_mid_behind xs ys a k n within few =
    let e : length (take a xs) ≡ a = length-take-le a xs within in
    sym (take-take (a + n) (a + length ys) (put_mid a k xs ys) (omega arith))
    ∙ ap (take (a + n)) (take-put_mid a k xs ys (a + length ys) refl within)
    ∙ ap (λ (m : ℕ). take (m + n) (take a xs ++ ys)) (sym e)
    ∙ take-append-add (take a xs) ys n

-- ---- lists that a function makes

-- two functions of the same values make the same list
pub map-same : {A B : Type 0} (f g : A → B) (xs : List A) → ((x : A) → f x ≡ g x) → map f xs ≡ map g xs
map-same f g [] h = refl
map-same f g (x ∷ xs) h =
    (let a = h x in let b = map-same f g xs h in (let e : f x ∷ map f xs ≡ g x ∷ map g xs = cc in e))

-- the same of functions of the same values at some numbers
pub map-range_same : (f g : ℕ → ℕ) (a n : ℕ) → ((j : ℕ) → j < a + n → f j ≡ g j) →
    map f (range_with_len a n) ≡ map g (range_with_len a n)
map-range_same f g a zero h = refl
map-range_same f g a (suc n) h =
    (λ i. h a (omega arith) i ∷ map-range_same f g (a + 1) n (λ j below. h j (omega (arith, below))) i)

-- the lists that two functions give at some numbers, one behind the other, are the same if each is
pub flat_map-range_same : (f g : ℕ → List ℕ) (a n : ℕ) → ((k : ℕ) → k < a + n → f k ≡ g k) →
    flat_map f (range_with_len a n) ≡ flat_map g (range_with_len a n)
flat_map-range_same f g a zero h = refl
flat_map-range_same f g a (suc n) h =
    (λ i. h a (omega arith) i ++ flat_map-range_same f g (a + 1) n (λ k l. h k (omega (arith, l))) i)

-- two lists of values are equal at each place
pub map-range_at : (f g : ℕ → ℕ) (a n : ℕ) → map f (range_with_len a n) ≡ map g (range_with_len a n) →
    (j : ℕ) → a ≤ j → j < a + n → f j ≡ g j
map-range_at f g a zero e j low high = absurd (omega (arith, low, high))
map-range_at f g a (suc n) e j low high =
    let parts : f a ∷ map f (range_with_len (a + 1) n) ≡ g a ∷ map g (range_with_len (a + 1) n) = e in
    let first : f a ≡ g a = cc in
    let rest : map f (range_with_len (a + 1) n) ≡ map g (range_with_len (a + 1) n) = cc in
    elim (cases_eq j a) [
      | inl here ↦ ap f here ∙ (first ∙ ap g (sym here))
      | inr other ↦ map-range_at f g (a + 1) n rest j (omega (arith, low, other)) (omega (arith, high))
    ]

-- what stands at a place of the list
pub get-map_range : {X : Type 0} (f : ℕ → X) (n a i : ℕ) → i < n →
    slice_get (map f (range_with_len a n)) i ≡ Some (f (a + i))
get-map_range f zero a i l = absurd (omega (arith, l))
get-map_range f (suc n) a zero l = ap (λ k. Some (f k)) (let e : a ≡ a + 0 = omega arith in e)
get-map_range f (suc n) a (suc i) l = get-map_range f n (a + 1) i (omega (arith, l))
    ∙ ap (λ k. Some (f k)) (let e : a + 1 + i ≡ a + suc i = omega arith in e)

-- ---- one list or another

-- two lists of numbers are equal or they are not
pub same_or_other : (xs ys : List ℕ) → (xs ≡ ys) ⊎ (xs ≡ ys → ⊥)
same_or_other [] [] = inl refl
same_or_other [] (y ∷ ys) = inr (λ e. cc)
same_or_other (x ∷ xs) [] = inr (λ e. cc)
same_or_other (x ∷ xs) (y ∷ ys) = elim (cases_eq x y) [
  | inr other ↦ inr (λ e. other (let f : x ≡ y = cc in f))
  | inl same ↦ elim (same_or_other xs ys) [
    | inl rest ↦ inl (let f : x ∷ xs ≡ y ∷ ys = cc in f)
    | inr other ↦ inr (λ e. other (let f : xs ≡ ys = cc in f))
  ]
]
