-- Products with F = 2 ^ width k, the first number above those of level k, of numbers in lanes of twice that
-- width
use Rattle.hail_field.proofs.Words.{◌≡◌, ℕ, zero, suc, ◌+◌, ◌-◌, ◌*◌, ◌/◌, ◌%◌, ◌^◌, ◌<◌, true, false, refl, sym, ap, ap₂, ◌∙◌, bit_and, bit_xor, arith, pow_pos, mod-eq_of_lt, add-zero, mul_comm, mul-le-mul_right, lt_of_le_of_lt, [], ◌∷◌, xor_zero_r, and_le_l, and_le_r, and_comm, xor_comm, xor_lt, and_mask, and_block, xor_block, shr_le, shr_split, shr_high, mod_low, mod_below, mul-add-lt, product, width, nim_add, nim_mul}
use Rattle.algebra_laws.proofs.Solve.{v, ◌⊞◌, ◌⊡◌, solve}
use Rattle.hail_field.proofs.Tower.{Tower}
use Rattle.hail_field.proofs.Link.{number, number-lt, square_of}
use Rattle.hail_field.proofs.Products.{by_element, half-lt}
use Rattle.hail_field.proofs.Joined.{high-lt, low-lt}
use Rattle.hail_field.proofs.AllNumbers.{nim_mul_at, nim_ring}
use Rattle.hail_field.proofs.Fermat.{next-lt, next_times, next_square}
use Rattle.hail_field.proofs.Subfield.{product_of_half}

-- the bits in common are within the width
and-lt : (w a b : ℕ) → a < 2 ^ w → bit_and a b < 2 ^ w
and-lt w a b h = lt_of_le_of_lt (and_le_l a b) h

-- the bits that sums have in common with a number, by those of both halves
and_by_halves : (w x1 x0 y1 y0 m1 m0 : ℕ) → x0 < 2 ^ w → y0 < 2 ^ w → m0 < 2 ^ w →
    bit_and (bit_xor x1 y1) m1 ≡ bit_xor (bit_and x1 m1) (bit_and y1 m1) →
    bit_and (bit_xor x0 y0) m0 ≡ bit_xor (bit_and x0 m0) (bit_and y0 m0) →
    bit_and (bit_xor (x1 * 2 ^ w + x0) (y1 * 2 ^ w + y0)) (m1 * 2 ^ w + m0) ≡
    bit_xor (bit_and (x1 * 2 ^ w + x0) (m1 * 2 ^ w + m0)) (bit_and (y1 * 2 ^ w + y0) (m1 * 2 ^ w + m0))
and_by_halves w x1 x0 y1 y0 m1 m0 hx hy hm h1 h0 =
    ap (λ n. bit_and n (m1 * 2 ^ w + m0)) (xor_block w x1 y1 x0 y0 hx hy) ∙
    and_block w (bit_xor x1 y1) m1 (bit_xor x0 y0) m0 (xor_lt w x0 y0 hx hy) hm ∙
    ap₂ (λ a b. a * 2 ^ w + b) h1 h0 ∙
    sym (
    ap₂ bit_xor (and_block w x1 m1 x0 m0 hx hm) (and_block w y1 m1 y0 m0 hy hm) ∙
    xor_block w (bit_and x1 m1) (bit_and y1 m1) (bit_and x0 m0) (bit_and y0 m0) (and-lt w x0 m0 hx)
    (and-lt w y0 m0 hy)
    )

-- the bits that a sum has in common with a number are the sum of those that its parts have, of elements
and_of_elements : (k : ℕ) (x y m : Tower k) →
    bit_and (bit_xor (number k x) (number k y)) (number k m) ≡
    bit_xor (bit_and (number k x) (number k m)) (bit_and (number k y) (number k m))
and_of_elements zero true true true = refl
and_of_elements zero true true false = refl
and_of_elements zero true false true = refl
and_of_elements zero true false false = refl
and_of_elements zero false true true = refl
and_of_elements zero false true false = refl
and_of_elements zero false false true = refl
and_of_elements zero false false false = refl
and_of_elements (suc k) x y m = and_by_halves (width k) (number k x.0) (number k x.1) (number k y.0)
    (number k y.1) (number k m.0) (number k m.1) (number-lt k x.1) (number-lt k y.1) (number-lt k m.1)
    (and_of_elements k x.0 y.0 m.0) (and_of_elements k x.1 y.1 m.1)

-- the same of numbers
and_of_sum : (k a b m : ℕ) → a < 2 ^ width k → b < 2 ^ width k → m < 2 ^ width k →
    bit_and (bit_xor a b) m ≡ bit_xor (bit_and a m) (bit_and b m)
and_of_sum k a b m ha hb hm =
    by_element k (λ a. bit_and (bit_xor a b) m ≡ bit_xor (bit_and a m) (bit_and b m))
    (λ x. by_element k (λ b. bit_and (bit_xor (number k x) b) m ≡ bit_xor (bit_and (number k x) m)
    (bit_and b m)) (λ y. by_element k (λ m. bit_and (bit_xor (number k x) (number k y)) m ≡ bit_xor
    (bit_and (number k x) m) (bit_and (number k y) m)) (λ z. and_of_elements k x y z) m hm) b hb) a ha

-- the level of a number that has 2 ^ n lanes, each of level k + 1
abbrev pub above : ℕ → ℕ → ℕ
above k zero = suc k
above k (suc n) = suc (above k n)

-- of such a number the lower half of each lane
abbrev pub lower : ℕ → ℕ → ℕ
lower k zero = 2 ^ width k - 1
lower k (suc n) = lower k n * 2 ^ width (above k n) + lower k n

-- they are within that level
lower-lt : (k n : ℕ) → lower k n < 2 ^ width (above k n)
lower-lt k zero = omega (arith, next-lt k, pow_pos (width k))
lower-lt k (suc n) =
    let h = lower-lt k n in
    rw (square_of (above k n)) (mul-add-lt (lower k n) (2 ^ width (above k n)) (lower k n) (2 ^ width
    (above k n)) h h)

-- F is within each level above k
bound-lt : (k n : ℕ) → 2 ^ width k < 2 ^ width (above k n)
bound-lt k zero = next-lt k
bound-lt k (suc n) = omega (arith, bound-lt k n, next-lt (above k n))

-- a factor of half the width acts on both halves
on_halves : (m h l c : ℕ) → h < 2 ^ width m → l < 2 ^ width m → c < 2 ^ width m →
    nim_mul (h * 2 ^ width m + l) c ≡ nim_mul h c * 2 ^ width m + nim_mul l c
on_halves m h l c hh hl hc =
    let w = width m in
    let a = h * 2 ^ w + l in
    let ha : a < 2 ^ width (suc m) = rw (square_of m) (mul-add-lt h (2 ^ w) l (2 ^ w) hh hl) in
    nim_mul_at (suc m) a c ha (omega (arith, hc, next-lt m)) ∙ product_of_half m a c ha hc ∙
    ap₂ (λ x y. product m x c * 2 ^ w + product m y c) (shr_high h w l hl) (mod_low h w l hl) ∙
    sym (ap₂ (λ x y. x * 2 ^ w + y) (nim_mul_at m h c hh hc) (nim_mul_at m l c hl hc))

-- a number below F, times F
times_bound : (k x : ℕ) → x < 2 ^ width k → nim_mul x (2 ^ width k) ≡ x * 2 ^ width k
times_bound k x h = nim_ring.mul_comm x (2 ^ width k) ∙ next_times k x h ∙ mul_comm (2 ^ width k) x

-- a common factor of two summands
common_factor : (u l f g : ℕ) → u * f * g + l * f ≡ (u * g + l) * f
common_factor u l f g = grind arith

-- F moves the lower half of each lane up
moves_up : (k n z : ℕ) → z < 2 ^ width (above k n) →
    nim_mul (bit_and z (lower k n)) (2 ^ width k) ≡ bit_and z (lower k n) * 2 ^ width k
moves_up k zero z h =
    let f = 2 ^ width k in
    let low : bit_and z (lower k 0) ≡ z % f = and_mask z (width k) in
    ap (λ x. nim_mul x f) low ∙ times_bound k (z % f) (mod_below z f (pow_pos (width k))) ∙
    ap (λ x. x * f) (sym low)
moves_up k (suc n) z h =
    let m = above k n in
    let w = width m in
    let f = 2 ^ width k in
    let g = 2 ^ w in
    let h1 = high-lt m z h in
    let h0 = low-lt m z in
    let u = bit_and (z / g) (lower k n) in
    let l = bit_and (z % g) (lower k n) in
    let split : bit_and z (lower k (suc n)) ≡ u * g + l =
    ap (λ x. bit_and x (lower k (suc n))) (sym (shr_split z w)) ∙
    and_block w (z / g) (lower k n) (z % g) (lower k n) h0 (lower-lt k n) in
    ap (λ x. nim_mul x f) split ∙
    on_halves m u l f (and-lt w (z / g) (lower k n) h1) (and-lt w (z % g) (lower k n) h0) (bound-lt k n) ∙
    ap₂ (λ x y. x * g + y) (moves_up k n (z / g) h1) (moves_up k n (z % g) h0) ∙
    common_factor u l f g ∙ ap (λ x. x * f) (sym split)

-- no bits in common with zero
and_zero : (a : ℕ) → bit_and a 0 ≡ 0
and_zero a = omega (arith, and_le_r a 0)

-- Numbers of n levels above that of a lane, and of their lanes the lower halves, which with the upper ones
-- are all bits
module _ (k n : ℕ) (all : bit_xor (lower k n * 2 ^ width k) (lower k n) ≡ 2 ^ width (above k n) - 1)
    (room : lower k n * 2 ^ width k < 2 ^ width (above k n)) where
  -- F
  abbrev f : ℕ
  f = 2 ^ width k

  -- the lower halves of the lanes
  abbrev low_of : ℕ → ℕ
  low_of a = bit_and a (lower k n)

  -- the upper halves, where they stand
  upper_of : (a : ℕ) → bit_and a (lower k n * f) ≡ low_of (a / f) * f
  upper_of a = ap₂ bit_and (sym (shr_split a (width k))) (sym (add-zero (lower k n * f))) ∙
      and_block (width k) (a / f) (lower k n) (a % f) 0 (mod_below a f (pow_pos (width k))) (pow_pos
      (width k)) ∙
      ap (λ x. low_of (a / f) * f + x) (and_zero (a % f)) ∙ add-zero (low_of (a / f) * f)

  -- a number is the sum of both
  both_halves : (a : ℕ) → a < 2 ^ width (above k n) → bit_xor (low_of (a / f) * f) (low_of a) ≡ a
  both_halves a ha = ap₂ bit_xor (sym (upper_of a) ∙ and_comm a (lower k n * f)) (and_comm a (lower k n)) ∙
      sym (and_of_sum (above k n) (lower k n * f) (lower k n) a room (lower-lt k n) ha) ∙
      ap (λ x. bit_and x a) all ∙ and_comm (2 ^ width (above k n) - 1) a ∙
      and_mask a (width (above k n)) ∙ mod-eq_of_lt ha

  -- the product with F, by that of the upper halves with F / 2
  pub with_bound : (a half : ℕ) → a < 2 ^ width (above k n) → half ≡
      nim_mul (bit_and (a / 2 ^ width k) (lower k n)) (2 ^ width k / 2) →
      bit_xor (bit_and (bit_xor (a / 2 ^ width k) a) (lower k n) * 2 ^ width k % 2 ^ width
      (above k n)) half ≡ nim_mul a (2 ^ width k)
  unfolding nim_add
  with_bound a half ha is =
      let m = above k n in
      let hd : a / f < 2 ^ width m = lt_of_le_of_lt (shr_le a (width k)) ha in
      let hs : bit_xor (a / f) a < 2 ^ width m = xor_lt (width m) (a / f) a hd ha in
      let u = low_of (a / f) in
      let l = low_of a in
      let sum = low_of (bit_xor (a / f) a) in
      let sum_is : sum ≡ nim_add u l = and_of_sum m (a / f) a (lower k n) hd ha (lower-lt k n) in
      let fits : sum * f < 2 ^ width m = lt_of_le_of_lt (mul-le-mul_right f (and_le_r (bit_xor
      (a / f) a) (lower k n))) room in
      let parts : a ≡ nim_add (nim_mul u f) l = sym (both_halves a ha) ∙
      ap (λ x. bit_xor x l) (sym (moves_up k n (a / f) hd)) in
      ap (λ x. bit_xor x half) (mod-eq_of_lt fits ∙ sym (moves_up k n (bit_xor (a / f) a) hs) ∙
      ap (λ x. nim_mul x f) sum_is) ∙
      ap (nim_add (nim_mul (nim_add u l) f)) is ∙
      solve nim_ring (u ∷ l ∷ f ∷ f / 2 ∷ []) (((v 0 ⊞ v 1) ⊡ v 2) ⊞ (v 0 ⊡ v 3)) ((v 0 ⊡ (v 2 ⊞ v 3)) ⊞
      (v 1 ⊡ v 2)) refl ∙
      ap (λ x. nim_add (nim_mul u x) (nim_mul l f)) (sym (next_square k)) ∙
      solve nim_ring (u ∷ l ∷ f ∷ []) ((v 0 ⊡ (v 2 ⊡ v 2)) ⊞ (v 1 ⊡ v 2)) (((v 0 ⊡ v 2) ⊞ v 1) ⊡ v 2) refl ∙
      ap (λ x. nim_mul x f) (sym parts)

-- the product with half of the next F
pub half_times : (k a half out : ℕ) → half ≡ nim_mul a (2 ^ width k / 2) → out ≡ nim_mul half (2 ^ width k) →
    out ≡ nim_mul a (2 ^ width k * (2 ^ width k / 2))
half_times k a half out is then =
    let f = 2 ^ width k in
    then ∙ ap (λ x. nim_mul x f) is ∙ nim_ring.mul_assoc a (f / 2) f ∙
    ap (nim_mul a) (nim_ring.mul_comm (f / 2) f ∙ next_times k (f / 2) (half-lt k))

-- a number by its two halves
pub by_halves : (k c : ℕ) → c < 2 ^ width (suc k) → c ≡
    nim_add (nim_mul (c / 2 ^ width k) (2 ^ width k)) (c % 2 ^ width k)
unfolding nim_add
by_halves k c h =
    let f = 2 ^ width k in
    let q = c / f in
    let r = c % f in
    let hr = low-lt k c in
    let none : r ≡ 0 * f + r = omega arith in
    let low : bit_xor 0 r ≡ r = xor_comm 0 r ∙ xor_zero_r r in
    sym (
    ap₂ bit_xor (times_bound k q (high-lt k c h) ∙ sym (add-zero (q * f))) none ∙
    xor_block (width k) q 0 0 r (pow_pos (width k)) hr ∙
    ap₂ (λ x y. x * f + y) (xor_zero_r q) low ∙ shr_split c (width k)
    )

-- so is a product with it
pub times_halves : (k a c : ℕ) → c < 2 ^ width (suc k) →
    nim_mul a c ≡ nim_add (nim_mul (nim_mul a (c / 2 ^ width k)) (2 ^ width k)) (nim_mul a (c % 2 ^ width k))
times_halves k a c h =
    let f = 2 ^ width k in
    ap (nim_mul a) (by_halves k c h) ∙
    solve nim_ring (a ∷ c / f ∷ f ∷ c % f ∷ []) (v 0 ⊡ ((v 1 ⊡ v 2) ⊞ v 3)) (((v 0 ⊡ v 1) ⊡ v 2) ⊞
    (v 0 ⊡ v 3)) refl

-- the same where the factor is multiplied with F first
pub times_halves_first : (k a shifted c high low : ℕ) → c < 2 ^ width (suc k) →
    shifted ≡ nim_mul a (2 ^ width k) → high ≡ nim_mul shifted (c / 2 ^ width k) →
    low ≡ nim_mul a (c % 2 ^ width k) → bit_xor high low ≡ nim_mul a c
unfolding nim_add
times_halves_first k a shifted c high low h moved is_high is_low =
    let f = 2 ^ width k in
    ap₂ nim_add (is_high ∙ ap (λ x. nim_mul x (c / f)) moved) is_low ∙
    solve nim_ring (a ∷ c / f ∷ f ∷ c % f ∷ []) (((v 0 ⊡ v 2) ⊡ v 1) ⊞ (v 0 ⊡ v 3))
    (((v 0 ⊡ v 1) ⊡ v 2) ⊞ (v 0 ⊡ v 3)) refl ∙
    sym (times_halves k a c h)

-- the sum of two products by those with the halves
pub sum_by_halves : (k a b c d high low shifted : ℕ) → b < 2 ^ width (suc k) → d < 2 ^ width (suc k) →
    high ≡ nim_add (nim_mul a (b / 2 ^ width k)) (nim_mul c (d / 2 ^ width k)) →
    low ≡ nim_add (nim_mul a (b % 2 ^ width k)) (nim_mul c (d % 2 ^ width k)) →
    shifted ≡ nim_mul high (2 ^ width k) → bit_xor shifted low ≡ nim_add (nim_mul a b) (nim_mul c d)
unfolding nim_add
sum_by_halves k a b c d high low shifted hb hd is_high is_low moved =
    let f = 2 ^ width k in
    ap₂ nim_add (moved ∙ ap (λ x. nim_mul x f) is_high) is_low ∙
    solve nim_ring (nim_mul a (b / f) ∷ nim_mul c (d / f) ∷ f ∷ nim_mul a (b % f) ∷ nim_mul c (d % f) ∷ [])
    (((v 0 ⊞ v 1) ⊡ v 2) ⊞ (v 3 ⊞ v 4)) (((v 0 ⊡ v 2) ⊞ v 3) ⊞ ((v 1 ⊡ v 2) ⊞ v 4)) refl ∙
    sym (ap₂ nim_add (times_halves k a b hb) (times_halves k c d hd))

-- a product as the sum of those with the low half, and of the product with F with the high one
pub product_of_factors : (k a c shifted once other out : ℕ) → c < 2 ^ width (suc k) →
    shifted ≡ nim_mul a (2 ^ width k) → once ≡ a → other ≡ shifted →
    out ≡ nim_add (nim_mul once (c % 2 ^ width k)) (nim_mul other (c / 2 ^ width k)) → out ≡ nim_mul a c
product_of_factors k a c shifted once other out h moved first second is =
    let f = 2 ^ width k in
    is ∙ ap₂ (λ x y. nim_add (nim_mul x (c % f)) (nim_mul y (c / f))) first (second ∙ moved) ∙
    solve nim_ring (a ∷ c / f ∷ f ∷ c % f ∷ []) ((v 0 ⊡ v 3) ⊞ ((v 0 ⊡ v 2) ⊡ v 1))
    (((v 0 ⊡ v 1) ⊡ v 2) ⊞ (v 0 ⊡ v 3)) refl ∙
    sym (times_halves k a c h)
