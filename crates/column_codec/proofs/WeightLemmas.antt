-- The weights by which a value of a polynomial is a sum over its values at the points 0 to l - 1.
use Rattle.column_codec.proofs.Words.{zero, slice_index, arith, ap, sym, refl, ◌∙◌, get_or, range_with_len, get_or-take, length-take-le, length-replicate, length-range_with_len, length-map-range_with_len, map-range_with_len_more, fill_by_all, Each, nim, nim_add, nim_mul, nim_inv, nim_laws, nim_ring, value_over, plus_zero, same_values, length-interpolate, value-interpolate_upto, value, interpolate, upto, others_product, dot, Apart-range, range_with_len-step, others_product-outside, part, dot-scaled, value-interpolate, nim_inv-mul, gap_not_zero, others_product-not_zero, AreWeights, symbols_at}
use Rattle.std.specs.Prelude.{◌≡◌, ◌≢◌, ◌≤◌, ◌<◌, ◌+◌, ◌-◌, ◌*◌, ◌==◌, if◌then◌else◌, ℕ, suc, List, [], ◌∷◌, length, map, take, replicate, ◌++◌}
use Rattle.algebra_laws.proofs.Each.{each_range}
use Rattle.algebra_laws.proofs.Inverse.{factor_zero}
use Rattle.algebra_laws.proofs.Ring.{zero_mul, one_mul}
use Rattle.algebra_laws.proofs.Solve.{v, i as one_term, ◌⊞◌, ◌⊡◌, solve}

-- the product over no points
pub gaps_start : (x p n : ℕ) → n ≡ 0 → 1 ≡ others_product x (range_with_len p n)
unfolding others_product
gaps_start x p n none = rw none refl

-- one point more
pub gaps_step : (x p end : ℕ) → p < end →
    others_product x (range_with_len p (end - p))
    ≡ (if p == x then others_product x (range_with_len (p + 1) (end - (p + 1)))
    else nim_mul (nim_add x p) (others_product x (range_with_len (p + 1) (end - (p + 1)))))
unfolding others_product
gaps_step x p end h = ap (others_product x) (range_with_len-step p end h)

-- the product of a point's gaps with one to another point is not zero
pub gaps_not_zero : (x p l : ℕ) → x ≢ p → nim_mul (nim_add x p) (others_product p (upto l)) ≢ 0
gaps_not_zero x p l differ e = others_product-not_zero p (upto l)
    (factor_zero nim nim_laws (nim_add x p) (others_product p (upto l)) e (gap_not_zero x p differ))

-- the inverse of a product of gaps
pub inverse_gaps : (x p l : ℕ) → x ≢ p →
    nim_inv (nim_mul (nim_add x p) (others_product p (upto l)))
    ≡ nim_mul (nim_inv (nim_add x p)) (nim_inv (others_product p (upto l)))
inverse_gaps x p l differ = nim_inv-mul (nim_add x p) (others_product p (upto l)) (gap_not_zero x p differ)
    (others_product-not_zero p (upto l))

-- more coefficients than symbols do not count
dot-take : (ws ys : List ℕ) (l : ℕ) → length ys ≡ l → dot ws ys ≡ dot (take l ws) ys
unfolding dot
dot-take [] ys zero long = refl
dot-take [] ys (suc l) long = refl
dot-take (w ∷ ws) [] zero long = refl
dot-take (w ∷ ws) [] (suc l) long = refl
dot-take (w ∷ ws) (y ∷ ys) zero long = absurd (omega (arith, long))
dot-take (w ∷ ws) (y ∷ ys) (suc l) long = ap (nim_add (nim_mul w y)) (dot-take ws ys l (omega (arith, long)))

-- Lagrange's coefficients are weights
pub are_weights : (l x : ℕ) (ws : List ℕ) → l ≤ length ws → ((p : ℕ) → p < l → x ≢ p) →
    ((k : ℕ) → k < l → get_or ws k 0 ≡ nim_mul (others_product x (upto l)) (part (upto l) x k)) →
    AreWeights l x ws
are_weights l x ws enough outside each = record {
  enough = enough;
  gives = λ ys long.
      value-interpolate (upto l) ys x (length-range_with_len 0 l ∙ sym long) (Apart-range 0 l) out
      ∙ ap (λ v. nim_mul v (dot (map (part (upto l) x) (upto l)) ys))
      (sym (others_product-outside x (upto l) out))
      ∙ sym (dot-scaled (part (upto l) x) w (others_product x (upto l)) (upto l) ys
      (each_range (λ p. w p ≡ nim_mul (others_product x (upto l)) (part (upto l) x p)) 0 l
      (λ j below. refl)))
      ∙ ap (λ (front : List ℕ). dot front ys) (sym filled)
      ∙ sym (dot-take ws ys l long);
}
  where
    out : Each (λ p. x ≢ p) (upto l)
    out = each_range (λ p. x ≢ p) 0 l (λ j below. outside j (omega (arith, below)))

    w : ℕ → ℕ
    w p = nim_mul (others_product x (upto l)) (part (upto l) x p)

    filled : take l ws ≡ map w (upto l)
    filled = fill_by_all w (take l ws) l 0 (length-take-le l ws enough)
        (λ k below. get_or-take l ws k 0 below ∙ each k below)

-- the sum of the weights is 1, the value of the polynomial 1
pub weights-whole : (l x : ℕ) (ws : List ℕ) → 1 ≤ l → AreWeights l x ws → dot ws (replicate l 1) ≡ 1
unfolding value_over
weights-whole l x ws some are = sym (are.gives (replicate l 1) (length-replicate l 1)) ∙ constant
  where
    ones : (a n : ℕ) → replicate {A = ℕ} n 1 ≡ map (λ j. 1) (range_with_len a n)
    ones a zero = refl
    ones a (suc n) = ap (λ (ks : List ℕ). 1 ∷ ks) (ones (a + 1) n)

    one : (z : ℕ) → value (1 ∷ []) z ≡ 1
    one z = ap (nim_add 1) (nim_ring.mul_zero z) ∙ nim_ring.add_zero 1

    p : List ℕ
    p = interpolate (upto l) (map (λ j. 1) (upto l))

    constant : value (interpolate (upto l) (replicate l 1)) x ≡ 1
    constant = ap (λ (ys : List ℕ). value (interpolate (upto l) ys) x) (ones 0 l)
        ∙ same_values nim nim_laws p (1 ∷ [])
        (plus_zero nim nim_laws (upto l) p (1 ∷ []) (Apart-range 0 l)
        (each_range (λ z. value p z ≡ value (1 ∷ []) z) 0 l
        (λ j below. value-interpolate_upto (λ k. 1) l j (omega (arith, below)) ∙ sym (one j)))
        (omega (
          arith,
          length-interpolate nim nim_laws (upto l) (map (λ j. 1) (upto l))
              (length-range_with_len 0 l ∙ sym (length-map-range_with_len (λ j. 1) 0 l)),
          length-range_with_len 0 l,
        ))
        (omega (arith, some, length-range_with_len 0 l))) x
        ∙ one x

-- the differences of the symbols at a place of the first blocks from a symbol
abbrev pub differences_at : ℕ → ℕ → ℕ → List ℕ → ℕ → List ℕ
differences_at l keep place symbols first =
    map (λ j. nim_add (slice_index symbols (j * keep + place)) first) (upto l)

-- no symbol, no sum
dot-none : (ws : List ℕ) → dot ws [] ≡ 0
unfolding dot
dot-none [] = refl
dot-none (w ∷ ws) = refl

-- one symbol more behind the others
dot-last : (ws xs : List ℕ) (y : ℕ) → length xs < length ws →
    dot ws (xs ++ y ∷ []) ≡ nim_add (dot ws xs) (nim_mul (get_or ws (length xs) 0) y)
unfolding dot
dot-last [] xs y below = absurd (omega (arith, below))
dot-last (w ∷ ws) [] y below = ap (nim_add (nim_mul w y)) (dot-none ws) ∙ nim_ring.add_comm (nim_mul w y) 0
dot-last (w ∷ ws) (x ∷ xs) y below = ap (nim_add (nim_mul w x)) (dot-last ws xs y (omega (arith, below)))
    ∙ sym (nim_ring.add_assoc (nim_mul w x) (dot ws xs) (nim_mul (get_or ws (length xs) 0) y))

-- the sum by all coefficients
dot-shifted : (ws : List ℕ) (f : ℕ → ℕ) (c a n : ℕ) →
    dot ws (map f (range_with_len a n)) ≡ nim_add (dot ws (map (λ j. nim_add (f j) c) (range_with_len a n)))
    (nim_mul (dot ws (replicate n 1)) c)
unfolding dot
dot-shifted [] f c a n = sym (ap (nim_add 0) (zero_mul nim_ring c) ∙ nim_ring.add_zero 0)
dot-shifted (w ∷ ws) f c a zero = sym (ap (nim_add 0) (zero_mul nim_ring c) ∙ nim_ring.add_zero 0)
dot-shifted (w ∷ ws) f c a (suc n) =
    let rest = dot ws (map (λ j. nim_add (f j) c) (range_with_len (a + 1) n)) in
    let ones = dot ws (replicate n 1) in
    ap (nim_add (nim_mul w (f a))) (dot-shifted ws f c (a + 1) n)
    ∙ solve nim_ring (w ∷ f a ∷ c ∷ rest ∷ ones ∷ [])
    ((v 0 ⊡ v 1) ⊞ (v 3 ⊞ (v 4 ⊡ v 2)))
    (((v 0 ⊡ (v 1 ⊞ v 2)) ⊞ v 3) ⊞ (((v 0 ⊡ one_term) ⊞ v 4) ⊡ v 2)) refl

-- the first symbol does not differ from itself
pub sum_first : (ws symbols : List ℕ) (keep place first : ℕ) → first ≡ get_or symbols place 0 →
    first ≡ nim_add first (dot ws (differences_at 1 keep place symbols first))
unfolding dot
sum_first [] symbols keep place first e = sym (nim_ring.add_zero first)
sum_first (w ∷ ws) symbols keep place first e =
    let zero_place : 0 * keep + place ≡ place = omega arith in
    sym (ap (nim_add first) (
    (λ i. nim_add (nim_mul w
    ((ap (λ k. nim_add (get_or symbols k 0) first) zero_place ∙ ap (λ y. nim_add y first) (sym e)
    ∙ nim_ring.add_self first) i)) (dot-none ws i))
    ∙ nim_ring.add_zero (nim_mul w 0) ∙ nim_ring.mul_zero w
    ) ∙ nim_ring.add_zero first)

-- one block more is summed
pub sum_more : (ws symbols : List ℕ) (keep place first j w y sum : ℕ) → j < length ws → w ≡ get_or ws j 0 →
    y ≡ get_or symbols (j * keep + place) 0 →
    sum ≡ nim_add first (dot ws (differences_at j keep place symbols first)) →
    nim_add sum (nim_mul w (nim_add y first)) ≡ nim_add first
    (dot ws (differences_at (j + 1) keep place symbols first))
sum_more ws symbols keep place first j w y sum below ew ey es =
    let f = λ (k : ℕ). nim_add (slice_index symbols (k * keep + place)) first in
    let long : length (differences_at j keep place symbols first) ≡ j = length-map-range_with_len f 0 j in
    (λ i. nim_add (es i) (nim_mul (ew i) (nim_add (ey i) first)))
    ∙ nim_ring.add_assoc first (dot ws (differences_at j keep place symbols first))
    (nim_mul (get_or ws j 0) (f j))
    ∙ ap (nim_add first) (
    ap (λ k. nim_add (dot ws (differences_at j keep place symbols first)) (nim_mul (get_or ws k 0) (f j)))
    (sym long)
    ∙ sym (dot-last ws (differences_at j keep place symbols first) (f j) (omega (arith, below, long)))
    ∙ ap (dot ws) (sym (map-range_with_len_more f 0 j j (omega arith)))
    )

-- all blocks are summed
pub sum_whole : (ws symbols : List ℕ) (l keep place first : ℕ) → dot ws (replicate l 1) ≡ 1 →
    nim_add first (dot ws (differences_at l keep place symbols first))
    ≡ dot ws (symbols_at l keep place symbols)
sum_whole ws symbols l keep place first whole =
    nim_ring.add_comm first (dot ws (differences_at l keep place symbols first))
    ∙ ap (nim_add (dot ws (differences_at l keep place symbols first)))
    (sym (ap (λ s. nim_mul s first) whole ∙ one_mul nim_ring first))
    ∙ sym (dot-shifted ws (λ j. slice_index symbols (j * keep + place)) first 0 l)
