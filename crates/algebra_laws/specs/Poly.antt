-- Polynomials over a field F of characteristic two. A polynomial is the list of its coefficients, lowest
-- first. Zeros at the end change no value: [] and [0] both are the polynomial 0. 'Of degree below K' is
-- said as 'length p ≤ K'.
--
--   value F p x                      == the value of p at x, the sum of p[i] * x^i (value_is_sum_of_terms),
--                                       by Horner's rule; 0 for []
--   plus F p q                       == the sum, which is also the difference; as long as the longer of the
--                                       two
--   scale F c p                      == c times p, as long as p
--   times F p q                      == the product; [] where p is []
--   root_times F r c p               == (x + r) p + c, one coefficient longer than p
--   vanish F points                  == the product of x + point over the points: one coefficient more than
--                                       points, the last one 1; [1] for no points (the annihilator, or
--                                       locator, of the points)
--   interpolate F points ys          == the polynomial of as many coefficients as points that takes the
--                                       values ys at points that are apart (Newton)
--   Takes F p points ys              == p takes each value at its point; false where there are fewer values
--                                       than points; further values do not count
--   is_seen F y s                    == whether the symbol s is present and is y
--   agree F p points seen            == at how many points the symbol seen there is present and is the value
--                                       of p; an absent place agrees with nothing
--   present seen                     == how many places of seen are present
--   Decodes F points ys keep fix p   == p has degree below keep and differs from the values ys at no more
--                                       than fix points
--   trim F p                         == p without zeros at the end, the one spelling of a polynomial; [] for
--                                       0
--   front F a p                      == a before p, but [] where a is 0 and p is []: a step of trim
--   quotient F d m w p               == p divided by d, which has m + 1 coefficients and a last one whose
--                                       inverse is w; as long as p
--   remainder F d m w p              == what this division leaves, at most m coefficients
--   FirstRow F below r0 f0 r1 f1 r f == Euclid's algorithm, from the rows (r0, f0) and (r1, f1) on, comes to
--                                       the row (r, f), and r is the first remainder from r1 on of at most
--                                       below coefficients
use Rattle.std.proofs.Common.{map, ◌≡◌, ◌≤◌, ◌<◌, ℕ, ◌+◌, Bool, false, cond, List, [], ◌∷◌, Option, Some, None, take, get_or, length}
use Rattle.algebra_laws.specs.Field.{FieldOf}

module _ {A : Type 0} (F : FieldOf A) where
  open F use {zero as 𝟘, add as ◌⊕◌, mul as ◌⊗◌}

  infixl 60 ◌⊕◌
  infixl 70 ◌⊗◌
  -- the value at x
  unfoldable pub value : List A → A → A
  value [] x = 𝟘
  value (a ∷ p) x = a ⊕ (x ⊗ value p x)

  -- the sum
  unfoldable pub plus : List A → List A → List A
  plus [] q = q
  plus (a ∷ p) [] = a ∷ p
  plus (a ∷ p) (b ∷ q) = (a ⊕ b) ∷ plus p q

  -- c times a polynomial
  unfoldable pub scale : A → List A → List A
  scale c [] = []
  scale c (a ∷ p) = (c ⊗ a) ∷ scale c p

  -- the product
  unfoldable pub times : List A → List A → List A
  times [] q = []
  times (a ∷ p) q = plus (scale a q) (𝟘 ∷ times p q)

  -- x + r times a polynomial, with what is carried in from below
  unfoldable pub root_times : A → A → List A → List A
  root_times r carry [] = carry ∷ []
  root_times r carry (a ∷ p) = ((r ⊗ a) ⊕ carry) ∷ root_times r a p

  -- the product of x + point over the points
  unfoldable pub vanish : List A → List A
  vanish [] = F.one ∷ []
  vanish (r ∷ rs) = times (r ∷ F.one ∷ []) (vanish rs)

  -- the polynomial of as many coefficients as points that takes the values at the points
  unfoldable pub interpolate : List A → List A → List A
  interpolate [] ys = []
  interpolate (x ∷ xs) [] = []
  interpolate (x ∷ xs) (y ∷ ys) =
      plus (interpolate xs ys)
      (scale ((y ⊕ value (interpolate xs ys) x) ⊗ F.inv (value (vanish xs) x)) (vanish xs))

  -- whether a symbol is present and is y
  unfoldable pub is_seen : A → Option A → Bool
  is_seen y None = false
  is_seen y (Some s) = F.eq s y

  -- at how many points the symbol seen is present and is the value
  unfoldable pub agree : List A → List A → List (Option A) → ℕ
  agree p [] seen = 0
  agree p (x ∷ xs) [] = 0
  agree p (x ∷ xs) (s ∷ ss) = cond (is_seen (value p x) s) 1 0 + agree p xs ss

  -- a coefficient before others, none if all are zero
  unfoldable pub front : A → List A → List A
  front a [] = cond (F.eq a 𝟘) [] (a ∷ [])
  front a (b ∷ p) = a ∷ b ∷ p

  -- without zeros at the end
  unfoldable pub trim : List A → List A
  trim [] = []
  trim (a ∷ p) = front a (trim p)

  -- the remainder by d, which has m + 1 coefficients and a last one whose inverse is w
  unfoldable pub remainder : List A → ℕ → A → List A → List A
  remainder d m w [] = []
  remainder d m w (a ∷ p) =
      take m (plus (a ∷ remainder d m w p) (scale (get_or (a ∷ remainder d m w p) m 𝟘 ⊗ w) d))

  -- the quotient by d
  unfoldable pub quotient : List A → ℕ → A → List A → List A
  quotient d m w [] = []
  quotient d m w (a ∷ p) = (get_or (a ∷ remainder d m w p) m 𝟘 ⊗ w) ∷ quotient d m w p

-- p takes each value at its point
abbrev pub Takes : {A : Type 0} → FieldOf A → List A → List A → List A → Type 0
Takes F p [] ys = Unit {0}
Takes F p (x ∷ xs) [] = ⊥
Takes F p (x ∷ xs) (y ∷ ys) = (value F p x ≡ y) × Takes F p xs ys

-- a polynomial of at most keep coefficients that differs from the values at no more than fix points
pub record Decodes {A : Type 0} (F : FieldOf A) (points values : List A) (keep fix : ℕ)
    (p : List A) : Type 0 where
  pub short : length p ≤ keep
  pub near : length points ≤ agree F p points (map Some values) + fix

-- how many are present
unfoldable pub present : {A : Type 0} → List (Option A) → ℕ
present [] = 0
present (None ∷ ss) = present ss
present (Some s ∷ ss) = 1 + present ss

module _ {A : Type 0} (F : FieldOf A) where
  -- below is the bound on coefficients; r and f are the first remainder of at most that many and its
  -- cofactor, among the rows that Euclid's algorithm makes after the rows (r0, f0) and (r1, f1)
  pub data FirstRow (below : ℕ) : List A → List A → List A → List A → List A → List A → Type 0 where
    here : {r0 f0 r1 f1 : List A} → length r1 ≤ below → FirstRow below r0 f0 r1 f1 r1 f1
    next : {r0 f0 r1 f1 r f : List A} (q r2 f2 : List A) → below < length r1 →
        ((x : A) → value F r0 x ≡ F.add (F.mul (value F q x) (value F r1 x)) (value F r2 x)) →
        length r2 < length r1 → length q + length r1 ≤ length r0 + 1 →
        f2 ≡ trim F (plus F f0 (times F q f1)) →
        FirstRow below r1 f1 r2 f2 r f → FirstRow below r0 f0 r1 f1 r f
