-- Lagrange's formula for the value of the interpolating polynomial at another point.
use Rattle.code_defs.proofs.Words.{◌≢◌, nat_eq, sym, ◌∙◌, ap, refl, arith, Each, Apart, one_mul, add_swap, sum_zero, mul_left_comm, add_mul, nim, nim_add, nim_mul, nim_inv, nim_laws, nim_ring, nim_mul_inv, nim_inv_is, value_over, interpolate_over, value-plus, value-scale, value-vanish, vanish_else, value, scale, vanish, interpolate, others_product, multiplier, dot}
use Rattle.std.proofs.Common.{◌≡◌, ℕ, Bool, true, false, cond, List, [], ◌∷◌, length, map}
use Rattle.algebra_laws.proofs.Solve.{v, ◌⊞◌, ◌⊡◌, solve}
use Rattle.algebra_laws.proofs.Inverse.{factor_zero}
use Rattle.code_defs.proofs.Points.{one_not_zero, others_product-other, others_product-outside}

-- what has a product of 1 is the inverse of a product
pub nim_inv-mul : (a b : ℕ) → a ≢ 0 → b ≢ 0 → nim_inv (nim_mul a b) ≡ nim_mul (nim_inv a) (nim_inv b)
nim_inv-mul a b ha hb =
    let one_a = nim_mul_inv a ha in
    let one_b = nim_mul_inv b hb in
    sym (nim_inv_is (nim_mul a b) (nim_mul (nim_inv a) (nim_inv b))
    (cc (
      nim_ring.mul_assoc a b (nim_mul (nim_inv a) (nim_inv b)),
      mul_left_comm nim_ring b (nim_inv a) (nim_inv b),
      one_a,
      one_b,
      nim_ring.mul_one (nim_inv a),
    )))

-- the sum of two different numbers is not zero
pub gap_not_zero : (x p : ℕ) → x ≢ p → nim_add x p ≢ 0
gap_not_zero x p differ e = differ (sum_zero nim_ring x p e)

-- (x + p) a = 1 and (y + p) b = 1 give (x + y) a b = a + b
split_gap : (x y p a b : ℕ) → nim_mul (nim_add x p) a ≡ 1 → nim_mul (nim_add y p) b ≡ 1 →
    nim_mul (nim_add x y) (nim_mul a b) ≡ nim_add a b
split_gap x y p a b ea eb = solve nim_ring (x ∷ y ∷ p ∷ a ∷ b ∷ []) ((v 0 ⊞ v 1) ⊡ (v 3 ⊡ v 4))
    ((((v 0 ⊞ v 2) ⊡ v 3) ⊡ v 4) ⊞ (((v 1 ⊞ v 2) ⊡ v 4) ⊡ v 3)) refl ∙
    cc (ea, eb, one_mul nim_ring a, one_mul nim_ring b, nim_ring.add_comm a b)

-- the sum by coefficients that are a multiple
pub dot-scaled : (u w : ℕ → ℕ) (c : ℕ) (ps ys : List ℕ) → Each (λ p. w p ≡ nim_mul c (u p)) ps →
    dot (map w ps) ys ≡ nim_mul c (dot (map u ps) ys)
unfolding dot
dot-scaled u w c [] ys is = sym (nim_ring.mul_zero c)
dot-scaled u w c (p ∷ ps) [] is = sym (nim_ring.mul_zero c)
dot-scaled u w c (p ∷ ps) (y ∷ ys) is = cc (
  is.0,
  dot-scaled u w c ps ys is.1,
  nim_ring.mul_assoc c (u p) y,
  nim_ring.mul_add c (nim_mul (u p) y) (dot (map u ps) ys),
)

-- the sum by coefficients that are sums
dot-added : (u t w : ℕ → ℕ) (ps ys : List ℕ) → Each (λ p. w p ≡ nim_add (u p) (t p)) ps →
    dot (map w ps) ys ≡ nim_add (dot (map u ps) ys) (dot (map t ps) ys)
unfolding dot
dot-added u t w [] ys is = sym (nim_ring.add_zero 0)
dot-added u t w (p ∷ ps) [] is = sym (nim_ring.add_zero 0)
dot-added u t w (p ∷ ps) (y ∷ ys) is = cc (
  is.0,
  dot-added u t w ps ys is.1,
  add_mul nim_ring (u p) (t p) y,
  add_swap nim_ring (nim_mul (u p) y) (nim_mul (t p) y) (dot (map u ps) ys) (dot (map t ps) ys),
)

-- a number is equal to itself
nat_eq-same : (p : ℕ) → nat_eq p p ≡ true
nat_eq-same p = nim_laws.eq_refl p

-- the coefficient of the value at a point among some points, at z, but for the product of all z + point
abbrev pub part : List ℕ → ℕ → ℕ → ℕ
part xs z p = nim_mul (nim_inv (nim_add z p)) (multiplier p xs)

module _ (xs : List ℕ) (x y : ℕ) where
  -- over points other than x and y, at which the products are not zero
  parts : (ps : List ℕ) → Each (λ p. x ≢ p) ps → Each (λ p. y ≢ p) ps →
      Each (λ p. others_product p xs ≢ 0) ps →
      Each (λ p. nim_mul (nim_add x y) (part (y ∷ xs) x p) ≡ nim_add (part xs x p) (part xs y p)) ps
  parts [] hx hy some = tt
  parts (p ∷ ps) hx hy some = (one hx.0 hy.0 some.0, parts ps hx.1 hy.1 some.1)
    where
      one : x ≢ p → y ≢ p → others_product p xs ≢ 0 →
          nim_mul (nim_add x y) (part (y ∷ xs) x p) ≡ nim_add (part xs x p) (part xs y p)
      one differ_x differ_y some_p =
          let a = nim_inv (nim_add x p) in
          let b = nim_inv (nim_add y p) in
          let m = multiplier p xs in
          cc (
            others_product-other p y xs (λ e. differ_y (sym e)),
            nim_inv-mul (nim_add p y) (others_product p xs) (gap_not_zero p y (λ e. differ_y (sym e))) some_p,
            nim_ring.add_comm p y,
            nim_ring.mul_assoc a b m,
            nim_ring.mul_assoc (nim_add x y) (nim_mul a b) m,
            split_gap x y p a b (nim_mul_inv (nim_add x p) (gap_not_zero x p differ_x))
                (nim_mul_inv (nim_add y p) (gap_not_zero y p differ_y)),
            add_mul nim_ring a b m,
          )

-- what is each one's own, at each
Each-same : (f g : ℕ → ℕ) (ps : List ℕ) → ((p : ℕ) → f p ≡ g p) → Each (λ p. f p ≡ g p) ps
Each-same f g [] h = tt
Each-same f g (p ∷ ps) h = (h p, Each-same f g ps h)

-- a point itself is no other
others_product-itself : (x : ℕ) (points : List ℕ) → others_product x (x ∷ points) ≡ others_product x points
unfolding others_product
others_product-itself x points = rw (nat_eq-same x) refl

-- no product over other points is zero
pub others_product-not_zero : (x : ℕ) (points : List ℕ) → others_product x points ≢ 0
unfolding others_product
others_product-not_zero x [] e = one_not_zero e
others_product-not_zero x (p ∷ points) e = go (nat_eq p x) refl (others_product-not_zero x points) e
  where
    differ : nat_eq p x ≡ false → x ≢ p
    differ is same = let t : true ≡ false = sym (ap (λ n. nat_eq p n) same ∙ nat_eq-same p) ∙ is in cc

    go : (b : Bool) → nat_eq p x ≡ b → (others_product x points ≢ 0) →
        cond b (others_product x points) (nim_mul (nim_add x p) (others_product x points)) ≡ 0 → ⊥
    go true is some none = some none
    go false is some none = some (factor_zero nim nim_laws (nim_add x p) (others_product x points) none
        (gap_not_zero x p (differ is)))

-- the formula with one point more, over plain numbers
one_more : (V V0 w g h y0 S1 S0 S : ℕ) → nim_mul V0 w ≡ 1 → nim_mul g h ≡ 1 → nim_mul g S ≡ nim_add S1 S0 →
    nim_add (nim_mul V S1) (nim_mul (nim_mul (nim_add y0 (nim_mul V0 S0)) w) V)
    ≡ nim_mul (nim_mul g V) (nim_add (nim_mul (nim_mul h w) y0) S)
one_more V V0 w g h y0 S1 S0 S ew eg es =
    solve nim_ring env ((v 0 ⊡ v 6) ⊞ (((v 5 ⊞ (v 1 ⊡ v 7)) ⊡ v 2) ⊡ v 0))
    ((v 0 ⊡ (v 6 ⊞ v 7)) ⊞ (((v 2 ⊡ v 5) ⊡ v 0) ⊞ ((v 0 ⊡ v 7) ⊞ ((v 1 ⊡ v 2) ⊡ (v 0 ⊡ v 7))))) refl ∙
    cc (
      ew,
      eg,
      es,
      one_mul nim_ring (nim_mul V S0),
      one_mul nim_ring (nim_mul (nim_mul w y0) V),
      nim_ring.add_self (nim_mul V S0),
      nim_ring.add_zero (nim_mul (nim_mul w y0) V),
    ) ∙
    solve nim_ring env
    ((v 0 ⊡ (v 3 ⊡ v 8)) ⊞ ((v 3 ⊡ v 4) ⊡ ((v 2 ⊡ v 5) ⊡ v 0)))
    ((v 3 ⊡ v 0) ⊡ (((v 4 ⊡ v 2) ⊡ v 5) ⊞ v 8)) refl
  where
    env : List ℕ
    env = V ∷ V0 ∷ w ∷ g ∷ h ∷ y0 ∷ S1 ∷ S0 ∷ S ∷ []

-- each product over other points
Each-some : (xs ps : List ℕ) → Each (λ p. others_product p xs ≢ 0) ps
Each-some xs [] = tt
Each-some xs (p ∷ ps) = (others_product-not_zero p xs, Each-some xs ps)

-- the value at a point that is none of the points
pub value-interpolate : (xs ys : List ℕ) (x : ℕ) → length xs ≡ length ys → Apart xs → Each (λ p. x ≢ p) xs →
    value (interpolate xs ys) x ≡ nim_mul (value (vanish xs) x) (dot (map (part xs x) xs) ys)
unfolding interpolate_over value_over dot
value-interpolate [] ys x even apart out = sym (nim_ring.mul_zero (value (vanish []) x))
value-interpolate (x0 ∷ xs) [] x even apart out = absurd (omega arith)
value-interpolate (x0 ∷ xs) (y0 ∷ ys) x even apart out =
    value-plus nim nim_laws I (scale (nim_mul (nim_add y0 (value I x0)) w) (vanish xs)) x ∙
    ap (λ t. nim_add (value I x) t)
    (value-scale nim nim_laws (nim_mul (nim_add y0 (value I x0)) w) (vanish xs) x) ∙
    ap (λ t. nim_add t (nim_mul (nim_mul (nim_add y0 (value I x0)) w) V))
    (value-interpolate xs ys x (omega arith) apart.1 out.1) ∙
    ap (λ t. nim_add (nim_mul V S1) (nim_mul (nim_mul (nim_add y0 t) w) V))
    (value-interpolate xs ys x0 (omega arith) apart.1 apart.0) ∙
    one_more V V0 w (nim_add x x0) (nim_inv (nim_add x x0)) y0 S1 S0 S
    (nim_mul_inv V0 (vanish_else nim nim_laws xs x0 one_not_zero apart.0))
    (nim_mul_inv (nim_add x x0) (gap_not_zero x x0 out.0))
    (sym (dot-scaled (part (x0 ∷ xs) x) (λ p. nim_mul (nim_add x x0) (part (x0 ∷ xs) x p))
    (nim_add x x0) xs ys
    (Each-same (λ p. nim_mul (nim_add x x0) (part (x0 ∷ xs) x p))
    (λ p. nim_mul (nim_add x x0) (part (x0 ∷ xs) x p)) xs (λ p. refl))) ∙
    dot-added (part xs x) (part xs x0) (λ p. nim_mul (nim_add x x0) (part (x0 ∷ xs) x p)) xs ys
    (parts xs x x0 xs out.1 apart.0 (Each-some xs xs))) ∙
    cc (
      nim_ring.add_comm x x0,
      value-vanish nim nim_laws x0 xs x,
      others_product-itself x0 xs,
      others_product-outside x0 xs apart.0,
    )
  where
    I : List ℕ
    I = interpolate xs ys

    V : ℕ
    V = value (vanish xs) x

    V0 : ℕ
    V0 = value (vanish xs) x0

    w : ℕ
    w = nim_inv V0

    S1 : ℕ
    S1 = dot (map (part xs x) xs) ys

    S0 : ℕ
    S0 = dot (map (part xs x0) xs) ys

    S : ℕ
    S = dot (map (part (x0 ∷ xs) x) xs) ys
