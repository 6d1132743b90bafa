-- A solver for identities in a commutative ring of characteristic two: both sides are brought to sums of
-- products in order.
use Rattle.algebra_laws.proofs.Words.{◌≡◌, ℕ, Bool, true, false, cond, eqb, ltb, sym, ap, refl, get_or, List, [], ◌∷◌, eqb-true, IsRing}
use Rattle.algebra_laws.proofs.Ring.{zero_add, zero_mul, one_mul, add_left_comm, add_same, mul_left_comm, add_mul}

-- an expression over numbered variables
pub data Term : Type 0 where
  v : ℕ → Term
  o : Term
  i : Term
  ◌⊞◌ : Term → Term → Term
  ◌⊡◌ : Term → Term → Term

infixl 60 ◌⊞◌
infixl 70 ◌⊡◌
-- a variable put into a product in order
abbrev pub put : ℕ → List ℕ → List ℕ
put x [] = x ∷ []
put x (y ∷ m) = cond (ltb y x) (y ∷ put x m) (x ∷ y ∷ m)

-- the product of two products in order
abbrev pub join : List ℕ → List ℕ → List ℕ
join [] n = n
join (x ∷ m) n = put x (join m n)

-- whether two products are one
abbrev pub same : List ℕ → List ℕ → Bool
same [] [] = true
same [] (y ∷ n) = false
same (x ∷ m) [] = false
same (x ∷ m) (y ∷ n) = cond (eqb x y) (same m n) false

-- whether a product comes before another
abbrev pub less : List ℕ → List ℕ → Bool
less [] [] = false
less [] (y ∷ n) = true
less (x ∷ m) [] = false
less (x ∷ m) (y ∷ n) = cond (eqb x y) (less m n) (ltb x y)

-- a product put into a sum in order, or taken out where it is there
abbrev pub flip : List ℕ → List (List ℕ) → List (List ℕ)
flip m [] = m ∷ []
flip m (n ∷ s) = cond (same m n) s (cond (less n m) (n ∷ flip m s) (m ∷ n ∷ s))

-- the sum of two sums in order
abbrev pub merge : List (List ℕ) → List (List ℕ) → List (List ℕ)
merge [] t = t
merge (m ∷ s) t = flip m (merge s t)

-- a product times a sum, and a further sum
abbrev pub spread : List ℕ → List (List ℕ) → List (List ℕ) → List (List ℕ)
spread m [] t = t
spread m (n ∷ s) t = flip (join m n) (spread m s t)

-- the product of two sums in order
abbrev pub product : List (List ℕ) → List (List ℕ) → List (List ℕ)
product [] t = []
product (m ∷ s) t = spread m t (product s t)

-- the sum of products in order that a term is
abbrev pub normal : Term → List (List ℕ)
normal (v x) = (x ∷ []) ∷ []
normal o = []
normal i = [] ∷ []
normal (a ⊞ b) = merge (normal a) (normal b)
normal (a ⊡ b) = product (normal a) (normal b)

-- products that the test calls one are one
same-true : (m n : List ℕ) → same m n ≡ true → m ≡ n
same-true [] [] e = refl
same-true [] (y ∷ n) e = cc
same-true (x ∷ m) [] e = cc
same-true (x ∷ m) (y ∷ n) e = go (eqb x y) refl (same-true m n) e
  where
    go : (b : Bool) → eqb x y ≡ b → (same m n ≡ true → m ≡ n) → cond b (same m n) false ≡ true → x ∷ m ≡ y ∷ n
    go true h hyp e' = cc (eqb-true x y h, hyp e')
    go false h hyp e' = cc

module _ {A : Type 0} {◌⊕◌ ◌⊗◌ : A → A → A} {𝟘 𝟙 : A} (R : IsRing ◌⊕◌ ◌⊗◌ 𝟘 𝟙) (env : List A) where
  infixl 60 ◌⊕◌
  infixl 70 ◌⊗◌
  -- what a variable stands for
  abbrev pub at : ℕ → A
  at n = get_or env n 𝟘

  -- what a term stands for
  abbrev pub mean : Term → A
  mean (v x) = at x
  mean o = 𝟘
  mean i = 𝟙
  mean (a ⊞ b) = mean a ⊕ mean b
  mean (a ⊡ b) = mean a ⊗ mean b

  -- what a product in order stands for
  abbrev pub mono : List ℕ → A
  mono [] = 𝟙
  mono (x ∷ m) = at x ⊗ mono m

  -- what a sum of products in order stands for
  abbrev pub all : List (List ℕ) → A
  all [] = 𝟘
  all (m ∷ s) = mono m ⊕ all s

  -- a variable put in is a factor more
  mono-put : (x : ℕ) (m : List ℕ) → mono (put x m) ≡ at x ⊗ mono m
  mono-put x [] = refl
  mono-put x (y ∷ m) = go (ltb y x) (mono-put x m)
    where
      go : (b : Bool) → mono (put x m) ≡ at x ⊗ mono m →
          mono (cond b (y ∷ put x m) (x ∷ y ∷ m)) ≡ at x ⊗ (at y ⊗ mono m)
      go true h = cc (h, mul_left_comm R (at x) (at y) (mono m))
      go false h = refl

  -- the meaning of a joined product
  mono-join : (m n : List ℕ) → mono (join m n) ≡ mono m ⊗ mono n
  mono-join [] n = sym (one_mul R (mono n))
  mono-join (x ∷ m) n = cc (mono-put x (join m n), mono-join m n, R.mul_assoc (at x) (mono m) (mono n))

  -- a product put into a sum is a summand more
  all-flip : (m : List ℕ) (s : List (List ℕ)) → all (flip m s) ≡ mono m ⊕ all s
  all-flip m [] = refl
  all-flip m (n ∷ s) = go (same m n) (less n m) (same-true m n) (all-flip m s)
    where
      go : (b c : Bool) → (b ≡ true → m ≡ n) → all (flip m s) ≡ mono m ⊕ all s →
          all (cond b s (cond c (n ∷ flip m s) (m ∷ n ∷ s))) ≡ mono m ⊕ (mono n ⊕ all s)
      go true c h hyp = cc (h refl, add_same R (mono n) (all s))
      go false true h hyp = cc (hyp, add_left_comm R (mono m) (mono n) (all s))
      go false false h hyp = refl

  -- the meaning of a merged sum
  all-merge : (s t : List (List ℕ)) → all (merge s t) ≡ all s ⊕ all t
  all-merge [] t = sym (zero_add R (all t))
  all-merge (m ∷ s) t = cc (all-flip m (merge s t), all-merge s t, R.add_assoc (mono m) (all s) (all t))

  -- the meaning of a product spread over a sum
  all-spread : (m : List ℕ) (s t : List (List ℕ)) → all (spread m s t) ≡ (mono m ⊗ all s) ⊕ all t
  all-spread m [] t = cc (R.mul_zero (mono m), zero_add R (all t))
  all-spread m (n ∷ s) t = cc (
    all-flip (join m n) (spread m s t),
    all-spread m s t,
    mono-join m n,
    R.mul_add (mono m) (mono n) (all s),
    R.add_assoc (mono m ⊗ mono n) (mono m ⊗ all s) (all t),
  )

  -- the meaning of a product of sums
  all-product : (s t : List (List ℕ)) → all (product s t) ≡ all s ⊗ all t
  all-product [] t = sym (zero_mul R (all t))
  all-product (m ∷ s) t =
      cc (all-spread m t (product s t), all-product s t, add_mul R (mono m) (all s) (all t))

  -- the normal form of a term means the same
  all-normal : (t : Term) → all (normal t) ≡ mean t
  all-normal (v x) = cc (R.add_zero (at x ⊗ 𝟙), R.mul_one (at x))
  all-normal o = refl
  all-normal i = R.add_zero 𝟙
  all-normal (a ⊞ b) = cc (all-merge (normal a) (normal b), all-normal a, all-normal b)
  all-normal (a ⊡ b) = cc (all-product (normal a) (normal b), all-normal a, all-normal b)

  -- two terms with one normal form mean the same
  pub solve : (s t : Term) → normal s ≡ normal t → mean s ≡ mean t
  solve s t e = cc (all-normal s, all-normal t, ap all e)
