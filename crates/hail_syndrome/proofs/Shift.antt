-- Multiples of a power of x.
use Rattle.hail_syndrome.proofs.Words.{◌≡◌, ◌≤◌, ◌+◌, ◌++◌, ℕ, zero, suc, sym, ◌∙◌, ap, refl, arith, List, [], ◌∷◌, length, take, replicate, get_or, zero-add, suc-add, get_or_past, FieldOf, IsField, IsEndless, zero_add, v, o, i, ◌⊞◌, ◌⊡◌, solve, root_times, same_from_values}
use Rattle.algebra_laws.specs.Poly.{value, trim, vanish}
use Rattle.algebra_laws.proofs.Degree.{get_or-trim}
use Rattle.algebra_laws.proofs.Loading.{vanish_step}

-- x to the power m
abbrev pub power_over : {A : Type 0} → FieldOf A → ℕ → List A
power_over F m = replicate m F.zero ++ F.one ∷ []

module _ {A : Type 0} (F : FieldOf A) (laws : IsField F) where
  open F use {zero as 𝟘, one as 𝟙, add as ◌⊕◌, mul as ◌⊗◌}

  infixl 60 ◌⊕◌
  infixl 70 ◌⊗◌
  -- the value of the polynomial 0
  pub value-nothing : (x : A) → value F [] x ≡ 𝟘
  unfolding value
  value-nothing x = refl

  -- the value behind zeros
  pub value-shift : (m : ℕ) (q : List A) (x : A) →
      value F (replicate m 𝟘 ++ q) x ≡ value F (power_over F m) x ⊗ value F q x
  unfolding value
  value-shift zero q x = solve laws.ring (value F q x ∷ x ∷ []) (v 0) ((i ⊞ (v 1 ⊡ o)) ⊡ v 0) refl
  value-shift (suc m) q x = ap (λ t. 𝟘 ⊕ (x ⊗ t)) (value-shift m q x) ∙
      solve laws.ring (value F q x ∷ x ∷ value F (power_over F m) x ∷ []) (o ⊞ (v 1 ⊡ (v 2 ⊡ v 0)))
      ((o ⊞ (v 1 ⊡ v 2)) ⊡ v 0) refl

  -- a power of 1 is 1
  pub power-at_one : (m : ℕ) → value F (power_over F m) 𝟙 ≡ 𝟙
  unfolding value
  power-at_one zero = solve laws.ring [] (i ⊞ (i ⊡ o)) i refl
  power-at_one (suc m) = cc (power-at_one m, laws.ring.mul_one 𝟙, zero_add laws.ring 𝟙)

  -- x times a polynomial
  root_times-zero : (c : A) (p : List A) → root_times F 𝟘 c p ≡ c ∷ p
  unfolding root_times
  root_times-zero c [] = refl
  root_times-zero c (a ∷ p) =
      cc (root_times-zero a p, laws.ring.mul_comm 𝟘 a, laws.ring.mul_zero a, zero_add laws.ring c)

  -- the product over m points 0 is x to the power m
  pub vanish-zeros : (m : ℕ) → vanish F (replicate m 𝟘) ≡ power_over F m
  unfolding vanish
  vanish-zeros zero = refl
  vanish-zeros (suc m) =
      sym (vanish_step F laws 𝟘 (replicate m 𝟘)) ∙ root_times-zero 𝟘 (vanish F (replicate m 𝟘))
      ∙ ap (λ t. 𝟘 ∷ t) (vanish-zeros m)

  -- a coefficient behind zeros
  get_or-shift : (m : ℕ) (q : List A) (j : ℕ) → get_or (replicate m 𝟘 ++ q) (m + j) 𝟘 ≡ get_or q j 𝟘
  get_or-shift zero q j = rw zero-add refl
  get_or-shift (suc m) q j = rw suc-add (get_or-shift m q j)

  -- where all coefficients from n on are zero, the first n are all
  value-front_part : (q : List A) (n : ℕ) (x : A) → ((j : ℕ) → n ≤ j → get_or q j 𝟘 ≡ 𝟘) →
      value F (take n q) x ≡ value F q x
  unfolding value
  value-front_part [] zero x h = refl
  value-front_part [] (suc n) x h = refl
  value-front_part (a ∷ q) zero x h = cc (
    h 0 (omega arith),
    value-front_part q zero x (λ j le. h (suc j) (omega arith)),
    laws.ring.mul_zero x,
    laws.ring.add_zero 𝟘,
  )
  value-front_part (a ∷ q) (suc n) x h =
      ap (λ t. a ⊕ (x ⊗ t)) (value-front_part q n x (λ j le. h (suc j) (omega arith)))

  module _ (endless : IsEndless A) where
    -- what is, times a power of x, of few coefficients, has few
    pub short_factor : (q w : List A) (m n : ℕ) →
        ((x : A) → value F w x ≡ value F (power_over F m) x ⊗ value F q x) → length w ≤ m + n →
        (x : A) → value F (take n q) x ≡ value F q x
    short_factor q w m n is few x = value-front_part q n x past
      where
        same : trim F (replicate m 𝟘 ++ q) ≡ trim F w
        same = same_from_values F laws endless (replicate m 𝟘 ++ q) w (λ x. value-shift m q x ∙ sym (is x))

        past : (j : ℕ) → n ≤ j → get_or q j 𝟘 ≡ 𝟘
        past j le = sym (get_or-shift m q j) ∙ sym (get_or-trim F laws (replicate m 𝟘 ++ q) (m + j))
            ∙ ap (λ p. get_or p (m + j) 𝟘) same ∙
            get_or-trim F laws w (m + j) ∙ get_or_past w (m + j) 𝟘 (omega arith)
