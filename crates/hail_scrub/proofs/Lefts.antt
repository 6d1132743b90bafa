-- How many steps actions may come to.
use Rattle.hail_scrub.proofs.Words.{◌≡◌, ℕ, zero, suc, ◌+◌, ◌*◌, ◌==◌, Bool, false, cond, List, [], ◌∷◌, ◌++◌, length, map, inl, inr, refl, ap, ◌∙◌, arith, length-append, sum_by, slice_index, if◌then◌else◌, flat_map, range_with_len, cases_Bool, length-map, upto, Action, Store, Fetch, Work, End, Item, is_opening, works_in, most_steps, numbers_between, store_of, stores_from, opening_of, item_actions, items_on}
use Rattle.std.proofs.lemmas.List.Sums.{sum_by-cons, sum_by-append}
use Rattle.std.proofs.lemmas.List.FromFn.{length-range_with_len}

works-append : (xs ys : List Action) → works_in (xs ++ ys) ≡ works_in xs + works_in ys
works-append xs ys = sum_by-append (λ (x : Action). cond (is_opening x) 1 0) xs ys

works-cons : (x : Action) (xs : List Action) → works_in (x ∷ xs) ≡ cond (is_opening x) 1 0 + works_in xs
works-cons x xs = sum_by-cons (λ (x : Action). cond (is_opening x) 1 0) x xs

-- of two lists in a row they are the sum of both
pub left-append : (n : ℕ) (xs ys : List Action) → most_steps n (xs ++ ys) ≡ most_steps n xs + most_steps n ys
left-append n xs ys =
    let a = length-append xs ys in
    let b = ap (λ (k : ℕ). n * k) (works-append xs ys) in
    omega (arith, a, b)

-- an action that opens nothing is one step
pub left-cons : (n : ℕ) (x : Action) (xs : List Action) → is_opening x ≡ false →
    most_steps n (x ∷ xs) ≡ 1 + most_steps n xs
left-cons n x xs is =
    let e : works_in (x ∷ xs) ≡ works_in xs =
    works-cons x xs ∙ ap (λ (b : Bool). cond {A = ℕ} b 1 0 + works_in xs) is
    ∙ (let z : 0 + works_in xs ≡ works_in xs = omega arith in z) in
    let b = ap (λ (k : ℕ). n * k) e in
    omega (arith, b)

-- an opening may be followed by a store on each provider
pub left-work : (n o t : ℕ) (xs : List Action) → most_steps n (Work o t ∷ xs) ≡ 1 + n + most_steps n xs
left-work n o t xs =
    let b = ap (λ (k : ℕ). n * k) (works-cons (Work o t) xs) in
    omega (arith, b)

no_works_map : (f : ℕ → Action) (ks : List ℕ) → ((k : ℕ) → is_opening (f k) ≡ false) → works_in (map f ks) ≡ 0
no_works_map f [] h = refl
no_works_map f (k ∷ ks) h =
    let e = works-cons (f k) (map f ks) in let i = no_works_map f ks h in
    let c = ap (λ (b : Bool). cond {A = ℕ} b 1 0) (h k) in omega (arith, e, i, c)

no_works_stores : (off : List ℕ) (o t : ℕ) (ks : List ℕ) → works_in (flat_map (store_of off o t) ks) ≡ 0
no_works_stores off o t [] = refl
no_works_stores off o t (k ∷ ks) = elim (cases_Bool (slice_index off k == 0)) [
  | inl h ↦ ap (λ (b : Bool). works_in ((if b then [] else Store k o t ∷ []) ++ flat_map (store_of off o t)
      ks)) h
      ∙ no_works_stores off o t ks
  | inr h ↦ ap (λ (b : Bool). works_in ((if b then [] else Store k o t ∷ []) ++ flat_map (store_of off o t)
      ks)) h
      ∙ works-cons (Store k o t) (flat_map (store_of off o t) ks)
      ∙ (let i = no_works_stores off o t ks in omega (arith, i))
]

-- stores are as many steps
pub left-stores : (n j m : ℕ) (off : List ℕ) (o t : ℕ) →
    most_steps n (stores_from m j off o t) ≡ length (stores_from m j off o t)
left-stores n j m off o t =
    let b = ap (λ (k : ℕ). n * k) (no_works_stores off o t (numbers_between j m)) in
    omega (arith, b)

left-opening : (n o t : ℕ) → most_steps n (opening_of n o t) ≡ 2 * n + 1
left-opening n o t =
    let fetches = map (λ k. Fetch k o t) (upto n) in
    let a = left-append n fetches (Work o t ∷ []) in
    let b = left-work n o t [] in
    let w = ap (λ (k : ℕ). n * k) (no_works_map (λ k. Fetch k o t) (upto n) (λ k. refl)) in
    let l = length-map (upto n) (λ k. Fetch k o t) in
    let r = length-range_with_len 0 n in
    omega (arith, a, b, w, l, r)

left-stripes : (n o a m : ℕ) → most_steps n (flat_map (opening_of n o) (range_with_len a m)) ≡ m * (2 * n + 1)
left-stripes n o a zero = omega arith
left-stripes n o a (suc m) =
    let e = left-append n (opening_of n o a) (flat_map (opening_of n o) (range_with_len (a + 1) m)) in
    let f = left-opening n o a in
    let i = left-stripes n o (a + 1) m in
    omega (arith, e, f, i)

left-all : (n : ℕ) (items : List Item) →
    most_steps n (flat_map (item_actions n) items) ≡ sum_by (λ (item : Item). item.stripes * (2 * n + 1)) items
left-all n [] = omega arith
left-all n (item ∷ items) =
    let e = left-append n (item_actions n item) (flat_map (item_actions n) items) in
    let f = left-stripes n item.file.id 0 item.stripes in
    let i = left-all n items in
    let s = sum_by-cons (λ (item : Item). item.stripes * (2 * n + 1)) item items in
    omega (arith, e, f, i, s)

-- files are as many steps as their stripes have
pub left-items : (n : ℕ) (items : List Item) →
    most_steps n (items_on n items) ≡ 1 + sum_by (λ (item : Item). item.stripes * (2 * n + 1)) items
left-items n items =
    let e = left-append n (flat_map (item_actions n) items) (End ∷ []) in
    let f = left-cons n End [] refl in
    let i = left-all n items in
    omega (arith, e, f, i)
