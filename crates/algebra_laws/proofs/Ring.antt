-- Sums and products in a ring of characteristic two: what follows at once from its laws.
use Rattle.algebra_laws.proofs.Words.{◌≡◌, ◌∙◌, IsRing}

module _ {A : Type 0} {◌⊕◌ ◌⊗◌ : A → A → A} {𝟘 𝟙 : A} (R : IsRing ◌⊕◌ ◌⊗◌ 𝟘 𝟙) where
  infixl 60 ◌⊕◌
  infixl 70 ◌⊗◌
  -- zero changes no sum, from the left
  pub zero_add : (x : A) → 𝟘 ⊕ x ≡ x
  zero_add x = R.add_comm 𝟘 x ∙ R.add_zero x

  -- zero times anything is zero
  pub zero_mul : (x : A) → 𝟘 ⊗ x ≡ 𝟘
  zero_mul x = R.mul_comm 𝟘 x ∙ R.mul_zero x

  -- one changes no product, from the left
  pub one_mul : (x : A) → 𝟙 ⊗ x ≡ x
  one_mul x = R.mul_comm 𝟙 x ∙ R.mul_one x

  -- two summands change places
  pub add_left_comm : (x y z : A) → x ⊕ (y ⊕ z) ≡ y ⊕ (x ⊕ z)
  add_left_comm x y z = cc (R.add_assoc x y z, R.add_assoc y x z, R.add_comm x y)

  -- the inner summands of two sums change places
  pub add_swap : (a b c d : A) → (a ⊕ b) ⊕ (c ⊕ d) ≡ (a ⊕ c) ⊕ (b ⊕ d)
  add_swap a b c d = cc (R.add_assoc a b (c ⊕ d), R.add_assoc a c (b ⊕ d), add_left_comm b c d)

  -- what is added twice is gone
  pub add_same : (x y : A) → x ⊕ (x ⊕ y) ≡ y
  add_same x y = cc (R.add_assoc x x y, R.add_self x, zero_add y)

  -- a sum is zero only if its parts are equal
  pub sum_zero : (x y : A) → x ⊕ y ≡ 𝟘 → x ≡ y
  sum_zero x y e = cc (R.add_assoc x y y, R.add_self y, R.add_zero x, zero_add y)

  -- two factors change places
  pub mul_left_comm : (x y z : A) → x ⊗ (y ⊗ z) ≡ y ⊗ (x ⊗ z)
  mul_left_comm x y z = cc (R.mul_assoc x y z, R.mul_assoc y x z, R.mul_comm x y)

  -- the product distributes from the right
  pub add_mul : (x y z : A) → (x ⊕ y) ⊗ z ≡ (x ⊗ z) ⊕ (y ⊗ z)
  add_mul x y z = cc (R.mul_comm (x ⊕ y) z, R.mul_add z x y, R.mul_comm z x, R.mul_comm z y)
