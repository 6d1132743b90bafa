-- Division, with and without a remainder, and what Euclid's algorithm keeps.
use Rattle.std.specs.Prelude.{◌≡◌, ◌<◌, ℕ, List, length}
use Rattle.hail_field.specs.Nim.{nim_add, nim_mul}
use Rattle.code_defs.specs.Polynomials.{value, plus, times, trim}

-- p is f times q
abbrev pub IsProduct : List ℕ → List ℕ → List ℕ → Type 0
IsProduct p f q = (x : ℕ) → value p x ≡ nim_mul (value f x) (value q x)

-- q is the quotient of p by f, without zeros at the end
pub record IsQuotient (p f q : List ℕ) : Type 0 where
  pub product : IsProduct p f q
  pub trimmed : q ≡ trim q

-- f does not divide p
pub record HasNoQuotient (p f : List ℕ) : Type 0 where
  pub none : (q : List ℕ) → IsProduct p f q → ⊥

-- p divided by d has the quotient q and the remainder r, both without zeros at the end
pub record IsDivision (p d q r : List ℕ) : Type 0 where
  pub values : (x : ℕ) → value p x ≡ nim_add (nim_mul (value q x) (value d x)) (value r x)
  pub whole : trim p ≡ trim (plus (times q d) r)
  pub shorter : length r < length d
  pub quotient : q ≡ trim q
  pub rest : r ≡ trim r

-- r is f times p, plus a multiple of w
pub record IsCombination (r f p w : List ℕ) : Type 0 where
  pub multiple : List ℕ
  pub values : (x : ℕ) → value r x ≡ nim_add (nim_mul (value f x) (value p x))
      (nim_mul (value multiple x) (value w x))
