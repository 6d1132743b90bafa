-- Sums and powers in a field.
--
--   sum_below F f n == f 0 + f 1 + .. + f (n - 1); 0 for n = 0
--   power F x n     == x^n, the product of n factors x; 1 for n = 0, also where x is 0
use Rattle.std.proofs.Common.{ℕ, zero, suc}
use Rattle.algebra_laws.specs.Field.{FieldOf}

module _ {A : Type 0} (F : FieldOf A) where
  -- the sum of f i over the numbers i below n
  unfoldable pub sum_below : (ℕ → A) → ℕ → A
  sum_below f zero = F.zero
  sum_below f (suc n) = F.add (sum_below f n) (f n)

  -- the product of n factors
  unfoldable pub power : A → ℕ → A
  power x zero = F.one
  power x (suc n) = F.mul x (power x n)
