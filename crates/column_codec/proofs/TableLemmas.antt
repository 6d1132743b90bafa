-- Products by half bytes.
use Rattle.std.specs.Prelude.{◌≡◌, ℕ, ◌+◌, ◌-◌, ◌*◌, ◌/◌, ◌%◌, ◌^◌, ◌<◌, ◌≤◌}
use Rattle.column_codec.proofs.Words.{arith, ap, sym, refl, ◌∙◌, subst, pow-add, mul_comm, pow_pos, div-div-eq-div-mul, mul-lt-mul_of_pos_right, mod_below, div-mul-add, mod-mul-add, nim_add, nim_mul, nim_ring, product_at}
use Rattle.std.specs.Int.Bits.{xor_shifted}
use Rattle.std.proofs.Math.Arith.{mod-mul}

-- a number above the bits of another adds to it
pub add_above : (high k low : ℕ) → low < 2 ^ k → nim_add low (high * 2 ^ k) ≡ high * 2 ^ k + low
unfolding nim_add
add_above high k low below = nim_ring.add_comm low (high * 2 ^ k) ∙ xor_shifted high k low below

-- four bits more
pub next_power : (h : ℕ) → 2 ^ (4 * (h + 1)) ≡ 2 ^ (4 * h) * 16
next_power h = let e : 4 * (h + 1) ≡ 4 * h + 4 = omega arith in ap (λ n. 2 ^ n) e ∙ pow-add 2 (4 * h) 4

-- one half byte more of the rest
pub next_rest : (x rest h : ℕ) → rest ≡ x / 2 ^ (4 * h) → rest / 16 ≡ x / 2 ^ (4 * (h + 1))
next_rest x rest h e =
    ap (λ n. n / 16) e ∙ div-div-eq-div-mul x (2 ^ (4 * h)) 16 ∙ ap (λ n. x / n) (sym (next_power h))

-- what a place of a half byte holds
pub product_at-place : (c h v : ℕ) → v < 16 → product_at c (16 * h + v) ≡ nim_mul c (v * 2 ^ (4 * h))
product_at-place c h v small =
    let e : 16 * h + v ≡ h * 16 + v = omega arith in
    ap (product_at c) e ∙ (λ i. nim_mul c (mod-mul-add h 16 v small i * 2 ^ (4 * div-mul-add h 16 v small i)))

-- one half byte more of a product
pub product_more : (c x h sum rest y : ℕ) → sum ≡ nim_mul c (x % 2 ^ (4 * h)) → rest ≡ x / 2 ^ (4 * h) →
    y ≡ product_at c (16 * h + rest % 16) → nim_add sum y ≡ nim_mul c (x % 2 ^ (4 * (h + 1)))
product_more c x h sum rest y es er ey =
    let p = 2 ^ (4 * h) in
    let digit = x / p % 16 in
    (λ i. nim_add (es i) ((ey ∙ ap (λ r. product_at c (16 * h + r % 16)) er
    ∙ product_at-place c h digit (mod_below (x / p) 16 (omega arith))) i))
    ∙ sym (nim_ring.mul_add c (x % p) (digit * p))
    ∙ ap (nim_mul c) (add_above digit (4 * h) (x % p) (mod_below x p (pow_pos (4 * h)))
    ∙ sym (mod-mul x {m = 16} {c = p} (omega arith) (pow_pos (4 * h)))
    ∙ ap (λ n. x % n) (mul_comm 16 p ∙ sym (next_power h)))

-- a number of a half byte that is no power of two is the sum of its highest one and the rest
pub product_split : (c h k v bit : ℕ) → bit ≡ 2 ^ k → bit ≤ v → v < 2 * bit → v < 16 →
    nim_add (product_at c (16 * h + (v - bit))) (product_at c (16 * h + bit)) ≡ product_at c (16 * h + v)
product_split c h k v bit is within highest small =
    let low = v - bit in
    let p = 2 ^ (4 * h) in
    let sum : low + bit ≡ v = omega (arith, within) in
    let place : 2 ^ (k + 4 * h) ≡ bit * p = pow-add 2 k (4 * h) ∙ ap (λ n. n * p) (sym is) in
    let high : bit * p ≡ 1 * 2 ^ (k + 4 * h) = omega (arith, place) in
    let below : low * p < 2 ^ (k + 4 * h) = subst (λ (n : ℕ). low * p < n) (sym place)
    (mul-lt-mul_of_pos_right {m = low} {n = bit} {k = p} (omega (arith, within, highest))
    (pow_pos (4 * h))) in
    (λ i. nim_add (product_at-place c h low (omega (arith, within, small)) i)
    (product_at-place c h bit (omega (arith, within, small)) i))
    ∙ sym (nim_ring.mul_add c (low * p) (bit * p))
    ∙ ap (nim_mul c) (ap (nim_add (low * p)) high ∙ add_above 1 (k + 4 * h) (low * p) below
    ∙ ap (λ n. n + low * p) (sym high)
    ∙ grind (arith, sum))
    ∙ sym (product_at-place c h v small)

-- the product with no half byte
pub mul-none : (c x : ℕ) → 0 ≡ nim_mul c (x % 1)
mul-none c x = sym (ap (nim_mul c) (let e : x % 1 ≡ 0 = omega arith in e) ∙ nim_ring.mul_zero c)

-- no bit, no product
pub product_at-zero : (c place : ℕ) → place % 16 ≡ 0 → product_at c place ≡ 0
product_at-zero c place none = ap (λ v. nim_mul c (v * 2 ^ (4 * (place / 16)))) none
    ∙ ap (nim_mul c) (let e : 0 * 2 ^ (4 * (place / 16)) ≡ 0 = omega arith in e) ∙ nim_ring.mul_zero c

-- the same of a place
pub product_at-sum : (c k place first second : ℕ) → first ≡ place - 2 ^ k →
    second ≡ place - place % 16 + 2 ^ k → 2 ^ k ≤ place % 16 → place % 16 < 2 * 2 ^ k →
    nim_add (product_at c first) (product_at c second) ≡ product_at c place
product_at-sum c k place first second is_first is_second within highest =
    let h = place / 16 in
    let v = place % 16 in
    let split : place ≡ 16 * h + v = omega arith in
    let one : first ≡ 16 * h + (v - 2 ^ k) = omega (arith, is_first, split, within) in
    let two : second ≡ 16 * h + 2 ^ k = omega (arith, is_second, split) in
    (λ i. nim_add (product_at c (one i)) (product_at c (two i)))
    ∙ product_split c h k v (2 ^ k) refl within highest (omega arith)
    ∙ ap (product_at c) (sym split)
