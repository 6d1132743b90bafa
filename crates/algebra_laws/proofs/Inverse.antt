-- What follows of products and inverses in a field.
use Rattle.algebra_laws.proofs.Words.{◌≡◌, ◌≢◌, FieldOf, IsField}

module _ {A : Type 0} (F : FieldOf A) (laws : IsField F) where
  open F use {zero as 𝟘, one as 𝟙, mul as ◌⊗◌}

  infixl 70 ◌⊗◌
  -- a product is zero only if a factor is
  pub factor_zero : (x y : A) → x ⊗ y ≡ 𝟘 → x ≢ 𝟘 → y ≡ 𝟘
  factor_zero x y e h = cc (
    laws.mul_inv x h,
    laws.ring.mul_comm x (F.inv x),
    laws.ring.mul_assoc (F.inv x) x y,
    e,
    laws.ring.mul_zero (F.inv x),
    laws.ring.mul_comm 𝟙 y,
    laws.ring.mul_one y,
  )

  -- what has a product that is not zero is not zero
  not_zero_of_product : (x y : A) → x ⊗ y ≢ 𝟘 → x ≢ 𝟘
  not_zero_of_product x y h e = h (cc (e, laws.ring.mul_comm 𝟘 y, laws.ring.mul_zero y))

  -- what gives 1 is the inverse
  pub inv_is : (x y : A) → x ⊗ y ≡ 𝟙 → y ≡ F.inv x
  inv_is x y e = cc (
    laws.mul_inv x (not_zero_of_product x y (λ z. laws.one_not_zero (cc (e, z)))),
    e,
    laws.ring.mul_comm x y,
    laws.ring.mul_assoc y x (F.inv x),
    laws.ring.mul_one y,
    laws.ring.mul_comm 𝟙 (F.inv x),
    laws.ring.mul_one (F.inv x),
  )
