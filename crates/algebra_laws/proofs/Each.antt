-- Plain facts on what holds of each element of a list, and on what is an element of one.
use Rattle.algebra_laws.proofs.Words.{◌≡◌, ℕ, zero, suc, ◌+◌, ◌<◌, ◌≤◌, List, [], ◌∷◌, ◌++◌, take, map, replicate, Some, None, refl, sym, subst, inl, inr, arith, slice_get, Contains, flat_map, range_with_len, Each, In}

-- the element at a place
pub each_get : {X : Type 0} (P : X → Type 0) (xs : List X) (k : ℕ) (x : X) → Each P xs →
    slice_get xs k ≡ Some x → P x
each_get P [] k x h e = let f : None ≡ Some x = e in cc
each_get P (y ∷ ys) zero x h e = subst P (let s : Some y ≡ Some x = e in let r : y ≡ x = cc in r) h.0
each_get P (y ∷ ys) (suc k) x h e = each_get P ys k x h.1 e

-- two lists together
pub each_append : {X : Type 0} (P : X → Type 0) (xs ys : List X) → Each P xs → Each P ys → Each P (xs ++ ys)
each_append P [] ys a b = b
each_append P (x ∷ xs) ys a b = (a.0, each_append P xs ys a.1 b)

-- a list that a function makes
pub each_map : {A X : Type 0} (P : X → Type 0) (f : A → X) (as_ : List A) → ((a : A) → P (f a)) →
    Each P (map f as_)
each_map P f [] h = tt
each_map P f (a ∷ as_) h = (h a, each_map P f as_ h)

-- a list that a function makes of lists
pub each_flat : {A X : Type 0} (P : X → Type 0) (f : A → List X) (as_ : List A) → ((a : A) → Each P (f a)) →
    Each P (flat_map f as_)
each_flat P f [] h = tt
each_flat P f (a ∷ as_) h = each_append P (f a) (flat_map f as_) (h a) (each_flat P f as_ h)

-- the same, where the function is told that it gets an element of the list
pub each_flat_in : {A X : Type 0} (P : X → Type 0) (f : A → List X) (as_ : List A) →
    ((a : A) → In a as_ → Each P (f a)) → Each P (flat_map f as_)
each_flat_in P f [] h = tt
each_flat_in P f (a ∷ as_) h =
    each_append P (f a) (flat_map f as_) (h a (inl refl)) (each_flat_in P f as_ (λ x i. h x (inr i)))

-- a weaker fact
pub each_mono : {X : Type 0} (P Q : X → Type 0) (xs : List X) → ((x : X) → P x → Q x) → Each P xs → Each Q xs
each_mono P Q [] f h = tt
each_mono P Q (x ∷ xs) f h = (f x h.0, each_mono P Q xs f h.1)

-- an element between others
pub each_middle : {X : Type 0} (P : X → Type 0) (xs : List X) (z : X) (ys : List X) → Each P (xs ++ z ∷ ys) →
    P z
each_middle P [] z ys h = h.0
each_middle P (x ∷ xs) z ys h = each_middle P xs z ys h.1

-- the first elements
pub each_take : {X : Type 0} (P : X → Type 0) (xs : List X) (p : ℕ) → Each P xs → Each P (take p xs)
each_take P xs zero h = tt
each_take P [] (suc p) h = tt
each_take P (x ∷ xs) (suc p) h = (h.0, each_take P xs p h.1)

-- numbers one after the other
pub each_range : (P : ℕ → Type 0) (a n : ℕ) → ((j : ℕ) → j < a + n → P j) → Each P (range_with_len a n)
each_range P a zero h = tt
each_range P a (suc n) h = (h a (omega arith), each_range P (a + 1) n (λ j below. h j (omega (arith, below))))

-- counts that are at most a number are at most a higher one
pub each_at_most : (low high : ℕ) (counts : List ℕ) → low ≤ high → Each (λ n. n ≤ low) counts →
    Each (λ n. n ≤ high) counts
each_at_most low high [] l h = tt
each_at_most low high (c ∷ cs) l h = ((let a = h.0 in omega (arith, a, l)), each_at_most low high cs l h.1)

-- zeros are at most 0
pub each_zero : (n : ℕ) → Each (λ count. count ≤ 0) (replicate n 0)
each_zero zero = tt
each_zero (suc n) = (omega arith, each_zero n)

-- an element among others, as contracts say it
pub in_contains : {X : Type 0} (xs : List X) (x : X) → In x xs → Contains xs x
in_contains [] x i = absurd i
in_contains (y ∷ ys) x (inl e) = (0, omega arith, sym e)
in_contains (y ∷ ys) x (inr i) =
    (let r = in_contains ys x i in let l = r.1 in (suc r.0, omega (arith, l), r.2))

-- ---- an element of a list that is put together

-- of the first of two lists
pub in_left : {X : Type 0} (xs ys : List X) (x : X) → In x xs → In x (xs ++ ys)
in_left [] ys x h = absurd h
in_left (y ∷ xs) ys x (inl e) = inl e
in_left (y ∷ xs) ys x (inr h) = inr (in_left xs ys x h)

-- of the second
pub in_right : {X : Type 0} (xs ys : List X) (x : X) → In x ys → In x (xs ++ ys)
in_right [] ys x h = h
in_right (y ∷ xs) ys x h = inr (in_right xs ys x h)

-- of a list that a function makes of an element
pub in_flat : {A X : Type 0} (f : A → List X) (as_ : List A) (a : A) (x : X) → In a as_ → In x (f a) →
    In x (flat_map f as_)
in_flat f [] a x h g = absurd h
in_flat f (b ∷ as_) a x (inl e) g = in_left (f b) (flat_map f as_) x (subst (λ z. In x (f z)) e g)
in_flat f (b ∷ as_) a x (inr h) g = in_right (f b) (flat_map f as_) x (in_flat f as_ a x h g)
