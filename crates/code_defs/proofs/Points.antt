-- Points that are apart, and the products of their sums.
use Rattle.code_defs.proofs.Words.{◌≢◌, ◌<◌, ◌-◌, ◌++◌, ◌⊎◌, inl, inr, sym, ◌∙◌, ap, refl, arith, nat_eq, eqb-true, zero-add, add-one, range_with_len, Each, Apart, one_mul, nim, nim_add, nim_mul, nim_laws, nim_ring, value-vanish, value_over, vanish_over, value, vanish, others_product, upto}
use Rattle.std.proofs.Common.{◌≡◌, ◌≤◌, ◌+◌, ℕ, zero, suc, List, [], ◌∷◌, Bool, true, false, cond}

-- 1 is not 0
pub one_not_zero : ◌≡◌ {A = ℕ} 1 0 → ⊥
one_not_zero = omega arith

-- a number outside a range is none of it
pub Each-outside : (x a n : ℕ) → (x < a) ⊎ (a + n ≤ x) → Each (λ p. x ≢ p) (range_with_len a n)
Each-outside x a zero out = tt
Each-outside x a (suc n) (inl below) = (omega arith, Each-outside x (a + 1) n (inl (omega arith)))
Each-outside x a (suc n) (inr above) = (omega arith, Each-outside x (a + 1) n (inr (omega arith)))

-- the numbers of a range are apart
pub Apart-range : (a n : ℕ) → Apart (range_with_len a n)
Apart-range a zero = tt
Apart-range a (suc n) = (Each-outside a (a + 1) n (inl (omega arith)), Apart-range (a + 1) n)

-- a range in two parts
pub range_with_len-append : (a m n : ℕ) → range_with_len a (m + n)
    ≡ range_with_len a m ++ range_with_len (a + m) n
range_with_len-append a zero n =
    let e : 0 + n ≡ n = omega arith in let f : a + 0 ≡ a = omega arith in rw (e, f) refl
range_with_len-append a (suc m) n =
    let e : suc m + n ≡ suc (m + n) = omega arith in
    let f : a + suc m ≡ a + 1 + m = omega arith in
    rw (e, f) (ap (λ t. a ∷ t) (range_with_len-append (a + 1) m n))

-- the first of the numbers up to an end, and the others
pub range_with_len-step : (a end : ℕ) → a < end →
    range_with_len a (end - a) ≡ a ∷ range_with_len (a + 1) (end - (a + 1))
range_with_len-step a end h = let e : end - a ≡ (end - (a + 1)) + 1 = omega arith in rw (e, add-one) refl

-- the test finds that numbers differ
pub nat_eq-differ : (p x : ℕ) → x ≢ p → nat_eq p x ≡ false
nat_eq-differ p x differ = go (nat_eq p x) refl
  where
    go : (b : Bool) → nat_eq p x ≡ b → b ≡ false
    go true is = absurd (differ (sym (eqb-true p x is)))
    go false is = refl

-- one point more, which is another
pub others_product-other : (x p : ℕ) (points : List ℕ) → x ≢ p →
    others_product x (p ∷ points) ≡ nim_mul (nim_add x p) (others_product x points)
unfolding others_product
others_product-other x p points differ = rw (nat_eq-differ p x differ) refl

-- over points that are all others, the product is the value of the polynomial that has them as roots
pub others_product-outside : (x : ℕ) (points : List ℕ) → Each (λ p. x ≢ p) points →
    others_product x points ≡ value (vanish points) x
unfolding others_product vanish_over value_over
others_product-outside x [] out = cc (nim_ring.mul_zero x, nim_ring.add_zero 1)
others_product-outside x (p ∷ points) out = others_product-other x p points out.0 ∙
    cc (others_product-outside x points out.1, value-vanish nim nim_laws p points x, nim_ring.add_comm x p)

-- the product over two lists of points
pub others_product-append : (x : ℕ) (ps qs : List ℕ) →
    others_product x (ps ++ qs) ≡ nim_mul (others_product x ps) (others_product x qs)
unfolding others_product
others_product-append x [] qs = sym (one_mul nim_ring (others_product x qs))
others_product-append x (p ∷ ps) qs = go (nat_eq p x) (others_product-append x ps qs)
  where
    go : (b : Bool) → others_product x (ps ++ qs) ≡ nim_mul (others_product x ps) (others_product x qs) →
        cond b (others_product x (ps ++ qs)) (nim_mul (nim_add x p) (others_product x (ps ++ qs))) ≡
        nim_mul (cond b (others_product x ps) (nim_mul (nim_add x p) (others_product x ps)))
        (others_product x qs)
    go true h = h
    go false h = cc (h, nim_ring.mul_assoc (nim_add x p) (others_product x ps) (others_product x qs))

-- one point more
pub upto_more : (n : ℕ) → upto (n + 1) ≡ upto n ++ n ∷ []
upto_more n = range_with_len-append 0 n 1 ∙ ap (λ a. upto n ++ a ∷ []) (zero-add n)
