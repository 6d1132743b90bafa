-- The steps of interpolate_into.
use Rattle.hail_poly.proofs.Words.{◌≡◌, ◌≢◌, ◌≤◌, ◌<◌, ◌+◌, ◌-◌, ◌++◌, [], ◌∷◌, ℕ, zero, suc, List, length, drop, take, set, get_or, add-one, refl, sym, ◌∙◌, ap, subst, arith, take_more_set, drop_all, drop_more, length-append, length-drop, Each, nim, nim_add, nim_mul, nim_inv, value, plus, scale, root_times, vanish, interpolate, nim_laws, Apart, vanish_over, interpolate_over, vanish_else}
use Rattle.algebra_laws.proofs.Lists.{take-front}
use Rattle.algebra_laws.proofs.Loading.{vanish_step, interpolate_step}

-- one point more in the product
pub whole_step : (points whole part : List ℕ) (done x last : ℕ) → done < length points →
    length whole ≡ length points + 1 →
    x ≡ get_or points (length points - 1 - done) x →
    take (done + 1) whole ≡ vanish (drop (length points - done) points) →
    length part ≡ done + 1 → part ++ last ∷ [] ≡ root_times x 0 (take (done + 1) whole) →
    take (done + 1 + 1) (set (part ++ drop (done + 1) whole) (done + 1) last)
    ≡ vanish (drop (length points - (done + 1)) points)
whole_step points whole part done x last lt room read before long made =
    take_more_set (part ++ drop (done + 1) whole) (done + 1) last
    (omega (arith, length-append part (drop (done + 1) whole), length-drop (done + 1) whole)) ∙
    ap (λ t. t ++ last ∷ []) (take-front part (drop (done + 1) whole) (done + 1) long) ∙ made ∙
    ap (λ t. root_times x 0 t) before ∙ vanish_step nim nim_laws x (drop (length points - done) points) ∙
    ap (λ t. vanish t) (sym at_next)
  where
    i : ℕ
    i = length points - (done + 1)

    same_i : length points - 1 - done ≡ i
    same_i = omega arith

    next_i : i + 1 ≡ length points - done
    next_i = omega arith

    at_next : drop i points ≡ x ∷ drop (length points - done) points
    at_next = drop_more points i x (omega arith)
        ∙ cc (read, ap (λ k. get_or points k x) same_i, ap (λ k. drop k points) next_i)

-- the product over no points
pub start_whole : (whole points : List ℕ) (k : ℕ) → 0 < length whole → length points ≤ k →
    take 1 (set whole 0 1) ≡ vanish (drop k points)
unfolding vanish_over
start_whole [] points k h e = absurd (omega arith)
start_whole (a ∷ w) points k h e = rw (drop_all k points e) refl

-- the polynomial through no points
pub start_rest : (points values : List ℕ) (k : ℕ) → length points ≤ k →
    [] ≡ interpolate (drop k points) (drop k values)
unfolding interpolate_over
start_rest points values k e = rw (drop_all k points e) refl

-- one value more in the polynomial
pub rest_step : (points values whole rest part : List ℕ) (done x y gap c : ℕ) → done < length points →
    length points ≡ length values → length rest ≡ length points →
    x ≡ get_or points (length points - 1 - done) x → y ≡ get_or values (length points - 1 - done) y →
    take (done + 1) whole ≡ vanish (drop (length points - done) points) →
    take done rest ≡ interpolate (drop (length points - done) points) (drop (length points - done) values) →
    gap ≡ nim_add y (value (take done rest) x) → c ≡ nim_mul gap (nim_inv (value (take (done + 1) whole) x)) →
    length part ≡ done + 1 →
    part ≡ plus (take (done + 1) (set rest done 0)) (scale c (take (done + 1) whole)) →
    take (done + 1) (part ++ drop (done + 1) (set rest done 0)) ≡
    interpolate (drop (length points - (done + 1)) points) (drop (length points - (done + 1)) values)
rest_step points values whole rest part done x y gap c lt even room read_x read_y is_whole is_rest is_gap is_c long made =
    cc (
      take-front part (drop (done + 1) (set rest done 0)) (done + 1) long,
      made,
      take_more_set rest done 0 (omega arith),
      is_whole,
      is_rest,
      is_gap,
      is_c,
      interpolate_step nim nim_laws x y X Y
          (omega (arith, length-drop (length points - done) points, length-drop (length points - done) values)),
      at_next_x,
      at_next_y,
    )
  where
    X : List ℕ
    X = drop (length points - done) points

    Y : List ℕ
    Y = drop (length points - done) values

    i : ℕ
    i = length points - (done + 1)

    same_i : length points - 1 - done ≡ i
    same_i = omega arith

    next_i : i + 1 ≡ length points - done
    next_i = omega arith

    at_next_x : drop i points ≡ x ∷ X
    at_next_x = drop_more points i x (omega arith)
        ∙ cc (read_x, ap (λ k. get_or points k x) same_i, ap (λ k. drop k points) next_i)

    at_next_y : drop i values ≡ y ∷ Y
    at_next_y = drop_more values i y (omega arith)
        ∙ cc (read_y, ap (λ k. get_or values k y) same_i, ap (λ k. drop k values) next_i)

-- 1 is not 0
one_not_zero : ◌≡◌ {A = ℕ} 1 0 → ⊥
one_not_zero = omega arith

-- a point differs from those after it
Apart-drop : (xs : List ℕ) (k : ℕ) (x : ℕ) → k < length xs → Apart xs → x ≡ get_or xs k x →
    Each (λ y. x ≢ y) (drop (k + 1) xs)
Apart-drop xs k x h d e = rw add-one (go xs k x h d e)
  where
    go : (xs : List ℕ) (k : ℕ) (x : ℕ) → k < length xs → Apart xs → x ≡ get_or xs k x →
        Each (λ y. x ≢ y) (drop (suc k) xs)
    go [] k x h d e = absurd (omega arith)
    go (a ∷ xs) zero x h d e = subst (λ (t : ℕ). Each (λ y. t ≢ y) xs) (sym e) d.0
    go (a ∷ xs) (suc k) x h d e = go xs k x (omega arith) d.1 e

-- the divisor at a point is not zero
pub divisor_not_zero : (points whole : List ℕ) (done x : ℕ) → done < length points → Apart points →
    x ≡ get_or points (length points - 1 - done) x →
    take (done + 1) whole ≡ vanish (drop (length points - done) points) →
    value (take (done + 1) whole) x ≡ 0 → ⊥
divisor_not_zero points whole done x lt apart read is_whole e = vanish_else nim nim_laws
    (drop (length points - done) points) x one_not_zero fresh (cc (ap (λ t. value t x) is_whole, e))
  where
    i : ℕ
    i = length points - (done + 1)

    same_i : length points - 1 - done ≡ i
    same_i = omega arith

    next_i : i + 1 ≡ length points - done
    next_i = omega arith

    fresh : Each (λ y. x ≢ y) (drop (length points - done) points)
    fresh = subst (λ (k : ℕ). Each (λ y. x ≢ y) (drop k points)) next_i
        (Apart-drop points i x (omega arith) apart (read ∙ ap (λ k. get_or points k x) same_i))
