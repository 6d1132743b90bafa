use Rattle.hail_poly.proofs.Words.{◌≡◌, ◌≢◌, ◌≤◌, ◌<◌, ◌+◌, ◌-◌, ◌++◌, [], ◌∷◌, ℕ, suc, List, length, drop, take, get_or, refl, sym, ◌∙◌, ap, arith, Option, Some, IfSome, take_more, length-append, length-take, length-drop, get_or_read, take-take, take-length, take-append_seam, nim, nim_add, nim_mul, nim_inv, trim, value, plus, scale, Reduces, nim_laws, nim_endless, zero_add, zero_mul, trim-zero_last, value-trim, length-trim, value_over, times_over, FirstRow, next, same_from_values, value-plus, value-times, length-plus, length-scale, length-times, shifted, length-shifted, value-added, take-added, get_or-added, reduce_rest}
use Rattle.hail_poly.proofs.TrimSteps.{last_of}
use Rattle.algebra_laws.proofs.Division.{get_or-scale}

-- the first coefficients less the last, which is zero
cut : (p : List ℕ) (n m x : ℕ) → n < m → m ≡ n + 1 → m ≤ length p → get_or p n 0 ≡ 0 →
    value (take n p) x ≡ value (take m p) x
cut p n m x lt e h z = rw e (sym (cc (
  value-trim nim nim_laws (take (n + 1) p) x,
  value-trim nim nim_laws (take n p) x,
  take_more p n 0 (omega arith),
  ap trim (take_more p n 0 (omega arith)),
  trim-zero_last nim nim_laws (take n p) (get_or p n 0) z,
)))

-- one multiple more is taken away: the row after it
reduce_by : (R0 F0 r0 f0 r1 f1 : List ℕ) (n s c inverse n' : ℕ) → Reduces R0 F0 r1 f1 (take n r0) f0 →
    n ≤ length R0 → n ≤ length r0 → 0 < length r1 → length r1 ≤ n → s ≡ n - length r1 → s ≤ length f0 →
    nim_mul inverse (get_or r1 (length r1 - 1) 0) ≡ 1 → c ≡ nim_mul (get_or r0 (n - 1) 0) inverse →
    take n' (take (n - 1) (take s r0 ++ plus (drop s r0) (scale c r1)))
    ≡ trim (take (n - 1) (take s r0 ++ plus (drop s r0) (scale c r1))) →
    n' ≤ n - 1 →
    Reduces R0 F0 r1 f1 (take n' (take s r0 ++ plus (drop s r0) (scale c r1)))
    (take s f0 ++ plus (drop s f0) (scale c f1))
reduce_by R0 F0 r0 f0 r1 f1 n s c inverse n' before hR h0 some le is_s hf is_inverse is_c made low =
    record {
      by = plus before.by (shifted nim s c);
      size = omega (
        arith,
        before.size,
        length-plus nim nim_laws before.by (shifted nim s c),
        length-shifted nim nim_laws s c,
      );
      rest = λ x. cc (
        reduce_rest nim nim_laws (value before.by x) (value (shifted nim s c) x) (value r1 x) (value R0 x)
            (value (take n r0) x) (value (take n' new) x) (before.rest x) (new_value x),
        value-plus nim nim_laws before.by (shifted nim s c) x,
      );
      factor = λ x. cc (
        reduce_rest nim nim_laws (value before.by x) (value (shifted nim s c) x) (value f1 x) (value F0 x)
            (value f0 x) (value (take s f0 ++ plus (drop s f0) (scale c f1)) x)
            (before.factor x) (value-added nim nim_laws f0 f1 s c x hf),
        value-plus nim nim_laws before.by (shifted nim s c) x,
      );
    }
  where
    new : List ℕ
    new = take s r0 ++ plus (drop s r0) (scale c r1)

    long : length new ≡ length r0
    long = omega (
      arith,
      length-append (take s r0) (plus (drop s r0) (scale c r1)),
      length-plus nim nim_laws (drop s r0) (scale c r1),
      length-scale nim nim_laws c r1,
      length-take s r0,
      length-drop s r0,
    )

    place : s + (length r1 - 1) ≡ n - 1
    place = omega arith

    top : get_or new (n - 1) 0 ≡ 0
    top = cc (
      get_or-added nim nim_laws r0 (scale c r1) s (length r1 - 1) (omega arith),
      ap (λ k. get_or new k 0) place,
      ap (λ k. get_or r0 k 0) place,
      get_or-scale nim nim_laws c r1 (length r1 - 1),
      is_c,
      nim_laws.ring.mul_assoc (get_or r0 (n - 1) 0) inverse (get_or r1 (length r1 - 1) 0),
      is_inverse,
      nim_laws.ring.mul_one (get_or r0 (n - 1) 0),
      nim_laws.ring.add_self (get_or r0 (n - 1) 0),
    )

    same_take : take n' new ≡ take n' (take (n - 1) new)
    same_take = sym (take-take n' (n - 1) new low)

    new_value : (x : ℕ) →
        value (take n' new) x ≡ nim_add (value (take n r0) x)
        (nim_mul (value (shifted nim s c) x) (value r1 x))
    new_value x = cc (
      ap (λ p. value p x) same_take,
      ap (λ p. value p x) made,
      value-trim nim nim_laws (take (n - 1) new) x,
      cut new (n - 1) n x (omega arith) (omega arith) (omega (arith, long)) top,
      ap (λ p. value p x) (take-added nim nim_laws r0 (scale c r1) s n
          (omega (arith, length-scale nim nim_laws c r1)) h0),
      value-added nim nim_laws (take n r0) r1 s c x (omega (arith, length-take n r0)),
    )

-- the same, of slices that are named
pub reduce_step : (R0 F0 r0 f0 r1 f1 r2 f2 : List ℕ) (n s c inverse n' : ℕ) →
    Reduces R0 F0 r1 f1 (take n r0) f0 →
    n ≤ length R0 → n ≤ length r0 → 0 < length r1 → length r1 ≤ n → s ≡ n - length r1 → s ≤ length f0 →
    nim_mul inverse (get_or r1 (length r1 - 1) 0) ≡ 1 → c ≡ nim_mul (get_or r0 (n - 1) 0) inverse →
    r2 ≡ take s r0 ++ plus (drop s r0) (scale c r1) → f2 ≡ take s f0 ++ plus (drop s f0) (scale c f1) →
    take n' (take (n - 1) r2) ≡ trim (take (n - 1) r2) → n' ≤ n - 1 → Reduces R0 F0 r1 f1 (take n' r2) f2
reduce_step R0 F0 r0 f0 r1 f1 r2 f2 n s c inverse n' before hR h0 some le is_s hf is_inverse is_c is_r is_f made low =
    rw (is_r, is_f) (reduce_by R0 F0 r0 f0 r1 f1 n s c inverse n' before hR h0 some le is_s hf is_inverse is_c
    (rw is_r at made) low)

-- before any multiple is taken away
pub reduce_start : (r0 f0 r1 f1 : List ℕ) (len n : ℕ) → n ≤ length (take len r0) →
    take n (take len r0) ≡ trim (take len r0) → Reduces (take len r0) f0 r1 f1 (take n r0) f0
unfolding value_over
reduce_start r0 f0 r1 f1 len n le made =
    record {
      by = [];
      size = omega arith;
      rest = λ x. cc (
        value-trim nim nim_laws (take len r0) x,
        ap (λ p. value p x) made,
        ap (λ p. value p x) (take-take n len r0 (omega (arith, length-take len r0))),
        zero_add nim_laws.ring (value (take n r0) x),
        zero_mul nim_laws.ring (value r1 x),
      );
      factor = λ x. cc (zero_add nim_laws.ring (value f0 x), zero_mul nim_laws.ring (value f1 x));
    }

-- what was found of the front holds of the slice
pub stays_at : (p : List ℕ) (m n : ℕ) → n ≤ length (take m p) → take n (take m p) ≡ trim (take n (take m p)) →
    take n p ≡ trim (take n p)
stays_at p m n le e =
    let same : take n (take m p) ≡ take n p = take-take n m p (omega (arith, length-take m p)) in rw same at e

-- the inverse that the code took
pub inverse_of : (p : List ℕ) (k a b : ℕ) (r : Option ℕ) → k < length p → a ≡ get_or p k a →
    get_or p k 0 ≢ 0 → IfSome r (λ t. t ≡ nim_inv a) → r ≡ Some b → nim_mul b (get_or p k 0) ≡ 1
inverse_of p k a b r lt read ne is_inv is_b =
    let same : a ≡ get_or p k 0 = get_or_read p k a lt read 0 in
    let made : b ≡ nim_inv a = rw is_b at is_inv in
    cc (
      same,
      made,
      nim_laws.mul_inv (get_or p k 0) ne,
      nim_laws.ring.mul_comm (get_or p k 0) (nim_inv (get_or p k 0)),
    )

-- the last coefficient is not zero
pub lead_of : (p : List ℕ) → p ≡ trim p → 0 < length p → get_or p (length p - 1) 0 ≢ 0
lead_of p e h z =
    let n : ℕ = length p in
    let whole : take n p ≡ p = take-length p in
    let split : p ≡ take (n - 1) p ++ get_or p (n - 1) 0 ∷ [] = sym whole ∙ last_of p n h (omega arith) in
    let shorter : trim p ≡ trim (take (n - 1) p) = ap trim split
    ∙ trim-zero_last nim nim_laws (take (n - 1) p) (get_or p (n - 1) 0) z in
    omega (
      arith,
      ap length e,
      ap length shorter,
      length-trim nim nim_laws (take (n - 1) p),
      length-take (n - 1) p,
    )

-- the cofactors may be without zeros at the end
pub reduces_trimmed : (r0 f0 r1 f1 r2 f2 g0 g2 : List ℕ) → Reduces r0 f0 r1 f1 r2 f2 → g0 ≡ trim f0 →
    g2 ≡ trim f2 → Reduces r0 g0 r1 f1 r2 g2
reduces_trimmed r0 f0 r1 f1 r2 f2 g0 g2 h e k =
    record {
      by = h.by;
      size = h.size;
      rest = h.rest;
      factor = λ x. cc (
        h.factor x,
        ap (λ p. value p x) e,
        ap (λ p. value p x) k,
        value-trim nim nim_laws f0 x,
        value-trim nim nim_laws f2 x,
      );
    }

-- what was lent comes back
pub lent : (n : ℕ) (xs ys : List ℕ) → n ≡ length xs → take n (xs ++ drop (length xs) ys) ≡ xs
lent n xs ys e = rw e (take-append_seam xs (drop (length xs) ys))

-- the rows, as the buffers that were lent hold them
pub advance_rows : (R0 F0 R1 F1 r0 f0 r2 f2 seen oldr oldf : List ℕ) (len n m nr nf : ℕ) →
    Reduces (take len r0) f0 R1 F1 (take n r2) f2 → R0 ≡ take len r0 → F0 ≡ trim f0 →
    nr ≡ length r2 → nf ≡ length f2 → take m seen ≡ trim seen → seen ≡ take nf (f2 ++ drop (length f2) oldf) →
    Reduces R0 F0 R1 F1 (take n (take nr (r2 ++ drop (length r2) oldr)))
    (take m (take nf (f2 ++ drop (length f2) oldf)))
advance_rows R0 F0 R1 F1 r0 f0 r2 f2 seen oldr oldf len n m nr nf h is_r is_f long_r long_f made is_seen =
    let seen_is : seen ≡ f2 = is_seen ∙ lent nf f2 oldf long_f in
    let last : take m f2 ≡ trim f2 = cc (seen_is, made, ap (λ p. take m p) seen_is, ap trim seen_is) in
    rw (lent nr r2 oldr long_r, lent nf f2 oldf long_f, is_r)
    (reduces_trimmed (take len r0) f0 R1 F1 (take n r2) f2 F0 (take m f2) h is_f last)

-- one row more before the first short one
pub go_on_step : (r0 f0 r1 f1 r2 f2 : List ℕ) (room below : ℕ) → Reduces r0 f0 r1 f1 r2 f2 →
    below < length r1 → length r2 < length r1 → length r1 < length r0 → f2 ≡ trim f2 → (r f : List ℕ) →
    FirstRow nim below r1 f1 r2 f2 r f → FirstRow nim below r0 f0 r1 f1 r f
go_on_step r0 f0 r1 f1 r2 f2 room below h more less falls trimmed r f row =
    next h.by r2 f2 more h.rest less (omega (arith, h.size))
    (trimmed ∙ same_from_values nim nim_laws nim_endless f2 (plus f0 (times_over nim h.by f1)) at_any) row
  where
    at_any : (x : ℕ) → value f2 x ≡ value (plus f0 (times_over nim h.by f1)) x
    at_any x = cc (
      value-plus nim nim_laws f0 (times_over nim h.by f1) x,
      value-times nim nim_laws h.by f1 x,
      h.factor x,
      nim_laws.ring.add_comm (nim_mul (value h.by x) (value f1 x)) (value f2 x),
      nim_laws.ring.add_assoc (value f2 x) (nim_mul (value h.by x) (value f1 x))
          (nim_mul (value h.by x) (value f1 x)),
      nim_laws.ring.add_self (nim_mul (value h.by x) (value f1 x)),
      nim_laws.ring.add_zero (value f2 x),
    )

-- how long the next cofactor is
pub go_on_size : (r0 f0 r1 f1 r2 f2 : List ℕ) (room : ℕ) → Reduces r0 f0 r1 f1 r2 f2 → f2 ≡ trim f2 →
    length r1 < length r0 → length f0 + length r1 ≤ room + 1 → length f1 + length r0 ≤ room + 1 →
    length r0 ≤ room → length f2 + length r1 ≤ room + 1
go_on_size r0 f0 r1 f1 r2 f2 room h trimmed falls size0 size1 top = of_size f1 refl
  where
    at_any : (x : ℕ) → value f2 x ≡ value (plus f0 (times_over nim h.by f1)) x
    at_any x = cc (
      value-plus nim nim_laws f0 (times_over nim h.by f1) x,
      value-times nim nim_laws h.by f1 x,
      h.factor x,
      nim_laws.ring.add_comm (nim_mul (value h.by x) (value f1 x)) (value f2 x),
      nim_laws.ring.add_assoc (value f2 x) (nim_mul (value h.by x) (value f1 x))
          (nim_mul (value h.by x) (value f1 x)),
      nim_laws.ring.add_self (nim_mul (value h.by x) (value f1 x)),
      nim_laws.ring.add_zero (value f2 x),
    )

    f2_is : f2 ≡ trim (plus f0 (times_over nim h.by f1))
    f2_is = trimmed ∙ same_from_values nim nim_laws nim_endless f2 (plus f0 (times_over nim h.by f1)) at_any

    of_size : (g : List ℕ) → f1 ≡ g → length f2 + length r1 ≤ room + 1
    of_size [] e =
        let n : length f1 ≡ 0 = ap length e in
        omega (
          arith,
          h.size,
          ap length f2_is,
          length-trim nim nim_laws (plus f0 (times_over nim h.by f1)),
          length-plus nim nim_laws f0 (times_over nim h.by f1),
          length-times nim nim_laws h.by f1 0 (omega arith),
        )
    of_size (a ∷ g) e =
        let n : length f1 ≡ suc (length g) = ap length e in
        omega (
          arith,
          h.size,
          ap length f2_is,
          length-trim nim nim_laws (plus f0 (times_over nim h.by f1)),
          length-plus nim nim_laws f0 (times_over nim h.by f1),
          length-times nim nim_laws h.by f1 (length g) (omega arith),
        )
