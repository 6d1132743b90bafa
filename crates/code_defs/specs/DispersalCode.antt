-- The dispersal code (Bowers, Juels and Oprea, HAIL, 2009): the symbols of a row are the values, at the
-- providers' points, of a polynomial of degree below l.
use Rattle.std.specs.Prelude.{◌≡◌, ℕ, ◌≤◌, ◌+◌, List, Option, length, take}
use Rattle.code_defs.specs.Polynomials.{agree, interpolate, trim}
use Rattle.code_defs.specs.Points.{values_at}

-- the row of primary symbols: the values at all points of the polynomial that takes them at the first
-- points, one a symbol
abbrev pub row_of : List ℕ → List ℕ → List ℕ
row_of points primary = values_at points (interpolate (take (length primary) points) primary)

-- a polynomial of degree below l that agrees with the present symbols of all but b places
pub record Accepts (points : List ℕ) (seen : List (Option ℕ)) (l b : ℕ) (p : List ℕ) : Type 0 where
  pub degree : length p ≤ l
  pub agrees : length points ≤ agree p points seen + b

-- no polynomial is accepted
abbrev pub AcceptsNone : List ℕ → List (Option ℕ) → ℕ → ℕ → Type 0
AcceptsNone points seen l b = (p : List ℕ) → Accepts points seen l b p → ⊥

-- each accepted polynomial is this one, but for zeros at its end
abbrev pub IsOnlyAccepted : List ℕ → List (Option ℕ) → ℕ → ℕ → List ℕ → Type 0
IsOnlyAccepted points seen l b p = (q : List ℕ) → Accepts points seen l b q → p ≡ trim q
