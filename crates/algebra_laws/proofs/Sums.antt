-- The value of a polynomial as a sum of its terms.
use Rattle.algebra_laws.proofs.Words.{◌≡◌, refl, sym, ap, ap₂, ◌∙◌, ℕ, zero, suc, List, [], ◌∷◌, length, get_or, FieldOf, IsField, value}
use Rattle.algebra_laws.proofs.Ring.{mul_left_comm}
use Rattle.algebra_laws.specs.Sums.{sum_below, power}

module _ {A : Type 0} (F : FieldOf A) (laws : IsField F) where
  open F use {zero as 𝟘, one as 𝟙, add as ◌⊕◌, mul as ◌⊗◌}

  infixl 60 ◌⊕◌
  infixl 70 ◌⊗◌
  -- sums of equal summands are equal
  sum_same : (f g : ℕ → A) (n : ℕ) → ((i : ℕ) → f i ≡ g i) → sum_below F f n ≡ sum_below F g n
  unfolding sum_below
  sum_same f g zero h = refl
  sum_same f g (suc n) h = ap₂ F.add (sum_same f g n h) (h n)

  -- the first summand apart
  sum_first : (f : ℕ → A) (n : ℕ) → sum_below F f (suc n) ≡ f 0 ⊕ sum_below F (λ i. f (suc i)) n
  unfolding sum_below
  sum_first f zero = laws.ring.add_comm 𝟘 (f 0)
  sum_first f (suc n) = ap (λ s. s ⊕ f (suc n)) (sum_first f n) ∙
      laws.ring.add_assoc (f 0) (sum_below F (λ i. f (suc i)) n) (f (suc n))

  -- a factor of a sum is one of each summand
  sum_times : (x : A) (f : ℕ → A) (n : ℕ) → x ⊗ sum_below F f n ≡ sum_below F (λ i. x ⊗ f i) n
  unfolding sum_below
  sum_times x f zero = laws.ring.mul_zero x
  sum_times x f (suc n) =
      laws.ring.mul_add x (sum_below F f n) (f n) ∙ ap (λ s. s ⊕ (x ⊗ f n)) (sum_times x f n)

  -- the term of x^i
  abbrev term : List A → A → ℕ → A
  term p x i = get_or p i 𝟘 ⊗ power F x i

  -- the terms behind the first have one factor x more
  term_next : (a : A) (p : List A) (x : A) (i : ℕ) → x ⊗ term p x i ≡ term (a ∷ p) x (suc i)
  unfolding power
  term_next a p x i = mul_left_comm laws.ring x (get_or p i 𝟘) (power F x i)

  -- the first term is the first coefficient
  term_first : (a : A) (p : List A) (x : A) → a ≡ term (a ∷ p) x 0
  unfolding power
  term_first a p x = sym (laws.ring.mul_one a)

  -- the value is the sum of the terms
  pub value_as_sum : (p : List A) (x : A) → value F p x
      ≡ sum_below F (λ i. get_or p i 𝟘 ⊗ power F x i) (length p)
  unfolding value sum_below
  value_as_sum [] x = refl
  value_as_sum (a ∷ p) x =
      ap₂ F.add (term_first a p x) (ap (λ v. x ⊗ v) (value_as_sum p x) ∙ sum_times x (term p x) (length p) ∙
      sum_same (λ i. x ⊗ term p x i) (λ i. term (a ∷ p) x (suc i)) (length p) (term_next a p x)) ∙
      sym (sum_first (term (a ∷ p) x) (length p))
