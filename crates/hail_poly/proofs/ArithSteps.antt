-- The steps of the sum, the product and the division.
use Rattle.hail_poly.proofs.Words.{◌≡◌, ◌≢◌, ◌≤◌, ◌<◌, ◌+◌, ◌++◌, [], ◌∷◌, ℕ, List, length, take, drop, get_or, replicate, add-one, refl, sym, ◌∙◌, ap, arith, get_or_read, take-length, Apart, zero_add, zero_mul, one_mul, add_mul, nim, nim_add, nim_mul, nim_laws, nim_ring, nim_endless, value_over, value-trim, length-trim, value-plus, value-scale, value-times, value-zero, interpolate_takes, length-interpolate, same_from_values, shifted, value-added, value, plus, scale, times, trim, interpolate, TakesSymbols, Reduces, IsDivision}
use Rattle.algebra_laws.proofs.Places.{value-next, Takes-trim}
use Rattle.hail_poly.proofs.RowSteps.{Each-zeros, trim_trim}
use Rattle.hail_poly.proofs.WorkSteps.{by_is}

-- zeros have the value 0
pub value-zeros : (n x : ℕ) → value (replicate n 0) x ≡ 0
value-zeros n x = value-zero nim nim_laws (replicate n 0) x (Each-zeros n)

-- two polynomials added to zeros are their sum
pub sum_made : (n : ℕ) (p q : List ℕ) → trim (plus (plus (replicate n 0) (scale 1 p)) (scale 1 q))
    ≡ trim (plus p q)
sum_made n p q = same_from_values nim nim_laws nim_endless
    (plus (plus (replicate n 0) (scale 1 p)) (scale 1 q)) (plus p q) (λ x. cc (
      value-plus nim nim_laws (plus (replicate n 0) (scale 1 p)) (scale 1 q) x,
      value-plus nim nim_laws (replicate n 0) (scale 1 p) x,
      value-scale nim nim_laws 1 p x,
      value-scale nim nim_laws 1 q x,
      value-zeros n x,
      one_mul nim_ring (value p x),
      one_mul nim_ring (value q x),
      zero_add nim_ring (value p x),
      value-plus nim nim_laws p q x,
    ))

-- zeros are the product with nothing
pub product_start : (n : ℕ) (q : List ℕ) (x : ℕ) → value (replicate n 0) x ≡ nim_mul (value [] x) (value q x)
unfolding value_over
product_start n q x = value-zeros n x ∙ sym (zero_mul nim_ring (value q x))

-- one coefficient more
pub product_step : (into p q next : List ℕ) (k c : ℕ) → k < length p → k ≤ length into → c ≡ get_or p k c →
    next ≡ take k into ++ plus (drop k into) (scale c q) →
    ((x : ℕ) → value into x ≡ nim_mul (value (take k p) x) (value q x)) →
    (x : ℕ) → value next x ≡ nim_mul (value (take (k + 1) p) x) (value q x)
product_step into p q next k c lt fits read made before x =
    ap (λ u. value u x) made ∙ value-added nim nim_laws into q k c x fits ∙
    ap (λ t. nim_add t (nim_mul (value (shifted nim k c) x) (value q x))) (before x) ∙
    sym (add_mul nim_ring (value (take k p) x) (value (shifted nim k c) x) (value q x)) ∙
    ap (λ t. nim_mul t (value q x)) (sym more)
  where
    more : value (take (k + 1) p) x ≡ nim_add (value (take k p) x) (value (shifted nim k c) x)
    more = rw add-one (value-next nim nim_laws p k x lt
        ∙ ap (λ t. nim_add (value (take k p) x) (value (shifted nim k t) x))
        (sym (get_or_read p k c lt read 0)))

-- all coefficients
pub product_end : (into p q : List ℕ) (k : ℕ) → k ≡ length p →
    ((x : ℕ) → value into x ≡ nim_mul (value (take k p) x) (value q x)) → trim into ≡ trim (times p q)
product_end into p q k all before = same_from_values nim nim_laws nim_endless into (times p q)
    (λ x. before x ∙ ap (λ u. nim_mul (value u x) (value q x)) (ap (λ n. take n p) all ∙ take-length p)
    ∙ sym (value-times nim nim_laws p q x))

-- a list that is not empty has an element
pub not_empty : (p : List ℕ) → p ≢ [] → 0 < length p
not_empty [] h = absurd (h refl)
not_empty (a ∷ p) h = omega arith

-- the row that a division ends with
pub division_made : (p d z r q : List ℕ) → Reduces (take (length p) p) z d (1 ∷ []) r q →
    ((x : ℕ) → value z x ≡ 0) → length r < length d → r ≡ trim r → IsDivision p d (trim q) r
division_made p d z r q h zeros less trimmed =
    record {
      values = values;
      whole = same_from_values nim nim_laws nim_endless p (plus (times (trim q) d) r) (λ x. cc (
        values x,
        value-plus nim nim_laws (times (trim q) d) r x,
        value-times nim nim_laws (trim q) d x,
      ));
      shorter = less;
      quotient = sym (trim_trim q);
      rest = trimmed;
    }
  where
    values : (x : ℕ) → value p x ≡ nim_add (nim_mul (value (trim q) x) (value d x)) (value r x)
    values x = ap (λ u. value u x) (sym (take-length p))
        ∙ cc (h.rest x, by_is (take (length p) p) z d r q h x (zeros x), value-trim nim nim_laws q x)

-- 1 is not 0
one_not_zero : ◌≡◌ {A = ℕ} 1 0 → ⊥
one_not_zero = omega arith

-- the interpolating polynomial has no more coefficients than there are points
pub interpolated_short : (points values : List ℕ) → length points ≡ length values →
    length (trim (interpolate points values)) ≤ length points
interpolated_short points values even = omega (
  arith,
  length-trim nim nim_laws (interpolate points values),
  length-interpolate nim nim_laws points values even,
)

-- it takes the values at the points
pub interpolated_takes : (points values : List ℕ) → length points ≡ length values → Apart points →
    TakesSymbols (trim (interpolate points values)) points values
interpolated_takes points values even apart = Takes-trim nim nim_laws (interpolate points values) points
    values (interpolate_takes nim nim_laws points values one_not_zero even apart)
