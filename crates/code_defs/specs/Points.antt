-- The points 0 to n - 1, which the server code has, and what is made of points.
--
--   upto n              == the points 0 to n - 1
--   values_at ps p      == the values of the polynomial p at the points ps
--   others_product x ps == the product, over those of ps that are not x, of x + point; 1 if there are none
--   multiplier x ps     == the inverse of that product
use Rattle.std.specs.Prelude.{ℕ, List, [], ◌∷◌, map, nat_eq, cond}
use Rattle.std.specs.List.{range_with_len}
use Rattle.hail_field.specs.Nim.{nim_add, nim_mul, nim_inv}
use Rattle.code_defs.specs.Polynomials.{value}

-- the numbers 0 to n - 1
abbrev pub upto : ℕ → List ℕ
upto n = range_with_len 0 n

-- the values at some points
abbrev pub values_at : List ℕ → List ℕ → List ℕ
values_at points p = map (value p) points

-- the product of x + point over the points that are not x
unfoldable pub others_product : ℕ → List ℕ → ℕ
others_product x [] = 1
others_product x (p ∷ points) =
    cond (nat_eq p x) (others_product x points) (nim_mul (nim_add x p) (others_product x points))

-- the inverse of the product of x + point over the points that are not x
abbrev pub multiplier : ℕ → List ℕ → ℕ
multiplier x points = nim_inv (others_product x points)
