-- The right answers to a challenge lie on one polynomial: sums of rows are rows, so that one aggregated
-- symbol a provider answers for many (Bowers, Juels and Oprea, HAIL, 2009).
use Rattle.std.specs.Prelude.{◌≡◌, ℕ, ◌≤◌, List, Some, length}
use Rattle.code_defs.specs.Polynomials.{value}
use Rattle.column_defs.specs.Objects.{Object, point}
use Rattle.column_defs.specs.Challenges.{Challenge, right_answer, bare_answer}

-- a polynomial of degree below l whose values at the providers' points are their right answers without the
-- mask sums
pub record IsRightRow (o : Object) (bytes : List ℕ) (c : Challenge) (p : List ℕ) : Type 0 where
  pub degree : length p ≤ o.shape.l
  pub values : (j : ℕ) → bare_answer o c j (right_answer o bytes j c) ≡ Some (value p (point o j))
