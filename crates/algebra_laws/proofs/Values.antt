-- The value of a sum and of a product.
use Rattle.algebra_laws.proofs.Words.{◌≡◌, sym, List, [], ◌∷◌, FieldOf, IsField, value, plus, scale, times}
use Rattle.algebra_laws.proofs.Ring.{zero_add, add_swap, mul_left_comm, add_mul}

module _ {A : Type 0} (F : FieldOf A) (laws : IsField F) where
  open F use {zero as 𝟘, add as ◌⊕◌, mul as ◌⊗◌}

  infixl 60 ◌⊕◌
  infixl 70 ◌⊗◌
  -- the value of a sum
  pub value-plus : (p q : List A) (x : A) → value F (plus F p q) x ≡ value F p x ⊕ value F q x
  unfolding value plus
  value-plus [] q x = sym (zero_add laws.ring (value F q x))
  value-plus (a ∷ p) [] x = sym (laws.ring.add_zero (a ⊕ (x ⊗ value F p x)))
  value-plus (a ∷ p) (b ∷ q) x = cc (
    value-plus p q x,
    laws.ring.mul_add x (value F p x) (value F q x),
    add_swap laws.ring a b (x ⊗ value F p x) (x ⊗ value F q x),
  )

  -- the value of a multiple
  pub value-scale : (c : A) (p : List A) (x : A) → value F (scale F c p) x ≡ c ⊗ value F p x
  unfolding value scale
  value-scale c [] x = sym (laws.ring.mul_zero c)
  value-scale c (a ∷ p) x = cc (
    value-scale c p x,
    laws.ring.mul_add c a (x ⊗ value F p x),
    mul_left_comm laws.ring c x (value F p x),
  )

  -- the value of a product
  pub value-times : (p q : List A) (x : A) → value F (times F p q) x ≡ value F p x ⊗ value F q x
  unfolding value times
  value-times [] q x = cc (laws.ring.mul_comm 𝟘 (value F q x), laws.ring.mul_zero (value F q x))
  value-times (a ∷ p) q x = cc (
    value-plus (scale F a q) (𝟘 ∷ times F p q) x,
    value-scale a q x,
    value-times p q x,
    zero_add laws.ring (x ⊗ (value F p x ⊗ value F q x)),
    laws.ring.mul_assoc x (value F p x) (value F q x),
    add_mul laws.ring a (x ⊗ value F p x) (value F q x),
  )
