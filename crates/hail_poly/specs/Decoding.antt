-- What a decoder is to find.
use Rattle.std.specs.Prelude.{◌≡◌, ℕ, List, Some, map}
use Rattle.hail_field.specs.Nim.{nim}
use Rattle.algebra_laws.specs.Poly.{Decodes}
use Rattle.code_defs.specs.Polynomials.{agree, trim}

-- at how many points p takes the value
abbrev pub matches : List ℕ → List ℕ → List ℕ → ℕ
matches p points values = agree p points (map Some values)

-- p is the one polynomial of at most keep coefficients that differs from the values at no more than fix
-- points
pub record IsDecoded (points values : List ℕ) (keep fix : ℕ) (p : List ℕ) : Type 0 where
  pub decodes : Decodes nim points values keep fix p
  pub only : (q : List ℕ) → Decodes nim points values keep fix q → p ≡ trim q

-- there is no such polynomial
pub record NoneDecodes (points values : List ℕ) (keep fix : ℕ) : Type 0 where
  pub none : (p : List ℕ) → Decodes nim points values keep fix p → ⊥
