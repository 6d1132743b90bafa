-- Where elements stand in lists that are put together of others.
use Rattle.second_half_laws.proofs.Words.{◌-◌, refl, ap, ◌∙◌, inl, inr, arith, slice_get, flat_map, range_with_len, slice_get_within, cases_eq, Each, In, each_get, get_behind, get-map_range, upto, split_get, get_left}
use Rattle.std.proofs.Common.{◌≡◌, ℕ, zero, suc, ◌+◌, ◌<◌, ◌≤◌, List, [], ◌∷◌, ◌++◌, length, map, Some}

-- the only element of a list
pub only : {X : Type 0} (w x : X) (k : ℕ) → slice_get (w ∷ []) k ≡ Some x → w ≡ x
only w x zero h = (let e = h in cc)
only w x (suc k) h = cc h

-- an element stands in a list
abbrev pub Stands : {X : Type 0} → X → List X → Type 0
Stands x xs = (p : ℕ) × (slice_get xs p ≡ Some x)

-- an element of the first list stands in two put together
pub stands_left : {X : Type 0} (xs ys : List X) (x : X) → Stands x xs → Stands x (xs ++ ys)
stands_left xs ys x h = (h.0, get_left xs ys h.0 x h.1)

-- an element of the second list stands in two put together
pub stands_right : {X : Type 0} (xs ys : List X) (x : X) → Stands x ys → Stands x (xs ++ ys)
stands_right xs ys x h = (length xs + h.0, get_behind xs ys h.0 x h.1)

-- what a function makes of an element stands in the list of all that it makes
pub stands_map : {A X : Type 0} (f : A → X) (as_ : List A) (a : A) → In a as_ → Stands (f a) (map f as_)
stands_map f [] a i = absurd i
stands_map f (b ∷ as_) a (inl e) = (0, cc)
stands_map f (b ∷ as_) a (inr i) = (let r = stands_map f as_ a i in (suc r.0, r.1))

-- what stands in the list made of an element stands in all such lists put together
pub stands_flat : {A X : Type 0} (f : A → List X) (as_ : List A) (a : A) (x : X) → In a as_ → Stands x (f a) →
    Stands x (flat_map f as_)
stands_flat f [] a x i h = absurd i
stands_flat f (b ∷ as_) a x (inl e) h = stands_left (f b) (flat_map f as_) x (rw e at h)
stands_flat f (b ∷ as_) a x (inr i) h = stands_right (f b) (flat_map f as_) x (stands_flat f as_ a x i h)

in_range : (n a t : ℕ) → a ≤ t → t < a + n → In t (range_with_len a n)
in_range zero a t l h = absurd (omega arith)
in_range (suc n) a t l h =
    elim (cases_eq t a) [ inl e ↦ inl e | inr o ↦ inr (in_range n (a + 1) t (omega arith) (omega arith)) ]

range_in : (n a t : ℕ) → In t (range_with_len a n) → t < a + n
range_in zero a t i = absurd i
range_in (suc n) a t (inl e) = omega arith
range_in (suc n) a t (inr i) = omega (arith, range_in n (a + 1) t i)

-- each number below n is among those below n
pub in_upto : (n t : ℕ) → t < n → In t (upto n)
in_upto n t l = in_range n 0 t (omega arith) (omega arith)

-- each number among those below n is below n
pub upto_in : (n t : ℕ) → In t (upto n) → t < n
upto_in n t i = omega (arith, range_in n 0 t i)

-- before each place of the second stands the first
abbrev pub Behind : {X : Type 0} → X → X → List X → Type 0
Behind a b xs = (p : ℕ) → slice_get xs p ≡ Some b → (q : ℕ) × (q < p) × (slice_get xs q ≡ Some a)

-- where the second one does not occur, the first one stands before each place of it
pub behind_none : {X : Type 0} (a b : X) (xs : List X) → Each (λ x. x ≡ b → ⊥) xs → Behind a b xs
behind_none a b xs h p e = absurd (each_get (λ x. x ≡ b → ⊥) xs p b h e refl)

-- what holds in two lists holds in both put together: the first one stands before the second
pub behind_append : {X : Type 0} (a b : X) (xs ys : List X) → Behind a b xs → Behind a b ys →
    Behind a b (xs ++ ys)
behind_append a b xs ys f g p e = elim (split_get xs ys p b e) [
  | inl u ↦ (let r = f p u.1 in (r.0, r.1, get_left xs ys r.0 a r.2))
  | inr u ↦ (let r = g (p - length xs) u.1 in
      (length xs + r.0, (let l = r.1 in omega (arith, u.0)), get_behind xs ys r.0 a r.2))
]

-- what holds in each list holds in all put together: the first one stands before the second
pub behind_flat : {A X : Type 0} (a b : X) (f : A → List X) (as_ : List A) →
    ((c : A) → In c as_ → Behind a b (f c)) → Behind a b (flat_map f as_)
behind_flat a b f [] h p e = (cc e)
behind_flat a b f (c ∷ as_) h p e =
    behind_append a b (f c) (flat_map f as_) (h c (inl refl)) (behind_flat a b f as_ (λ x i. h x (inr i))) p e

-- an element of a part stands before what the part behind it has
pub stands_before : {X : Type 0} (xs ys : List X) (a b : X) (p : ℕ) → Stands a xs → Each (λ x. x ≡ b → ⊥) xs →
    slice_get (xs ++ ys) p ≡ Some b → (q : ℕ) × (q < p) × (slice_get (xs ++ ys) q ≡ Some a)
stands_before xs ys a b p s none e = elim (split_get xs ys p b e) [
  | inl u ↦ absurd (each_get (λ x. x ≡ b → ⊥) xs p b none u.1 refl)
  | inr u ↦ (s.0, (let l = slice_get_within xs s.0 a s.1 in omega (arith, u.0)), get_left xs ys s.0 a s.1)
]

-- what stands at a place of a list that a function makes of 0 to n - 1
pub get_map_upto : {X : Type 0} (f : ℕ → X) (n i : ℕ) → i < n → slice_get (map f (upto n)) i ≡ Some (f i)
get_map_upto f n i l = get-map_range f n 0 i l ∙ ap (λ k. Some (f k)) (omega arith)
