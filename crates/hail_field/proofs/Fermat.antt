-- Products by F = 2 ^ width k, the first number above those of level k.
use Rattle.hail_field.proofs.Words.{◌≡◌, ℕ, suc, ◌+◌, ◌*◌, ◌/◌, ◌%◌, ◌^◌, ◌<◌, refl, sym, ap, ap₂, ◌∙◌, bit_xor, arith, pow_pos, mod-eq_of_lt, div-eq_of_lt, div_self, mod_self, xor_zero_r, xor_comm, product, width, nim_add, nim_mul}
use Rattle.hail_field.proofs.Tower.{unit, highest, none, ring_at}
use Rattle.hail_field.proofs.Link.{number, number_add, number_none, number_unit, number_highest, square_of}
use Rattle.hail_field.proofs.Products.{product_step, product_zero, zero_product, product_one, one_product, one-lt, half-lt}
use Rattle.hail_field.proofs.AllNumbers.{nim_mul_at}

-- zero changes no sum, from the left
zero_xor : (a : ℕ) → bit_xor 0 a ≡ a
zero_xor a = xor_comm 0 a ∙ xor_zero_r a

-- F is within the next level
pub next-lt : (k : ℕ) → 2 ^ width k < 2 ^ width (suc k)
next-lt k = rw (square_of k) (omega (arith, one-lt k, more (2 ^ width k) (one-lt k)))
  where
    more : (n : ℕ) → 1 < n → n < n * n
    more n h = grind arith

-- F times x for x < F is the product of numbers
pub next_times : (k x : ℕ) → x < 2 ^ width k → nim_mul (2 ^ width k) x ≡ 2 ^ width k * x
next_times k x h =
    let y : ℕ = 2 ^ width k in
    let some : 0 < y = pow_pos (width k) in
    let a1 : y / y ≡ 1 = div_self some in
    let a0 : y % y ≡ 0 = mod_self (2 ^ width k) in
    let b1 : x / y ≡ 0 = div-eq_of_lt h in
    let b0 : x % y ≡ x = mod-eq_of_lt h in
    nim_mul_at (suc k) y x (next-lt k) (omega (arith, next-lt k)) ∙
    product_step k y x ∙
    rw (
      a1,
      a0,
      b1,
      b0,
      product_zero k 1 (one-lt k),
      one_product k x h,
      product_zero k 0 some,
      zero_product k x h,
      product_zero k (y / 2) (half-lt k),
      xor_zero_r x,
      zero_xor x,
    ) (omega arith)

-- F times F is F xor F / 2
pub next_square : (k : ℕ) → nim_mul (2 ^ width k) (2 ^ width k) ≡ nim_add (2 ^ width k) (2 ^ width k / 2)
unfolding nim_add
next_square k =
    let y : ℕ = 2 ^ width k in
    let some : 0 < y = pow_pos (width k) in
    let a1 : y / y ≡ 1 = div_self some in
    let a0 : y % y ≡ 0 = mod_self (2 ^ width k) in
    nim_mul_at (suc k) y y (next-lt k) (next-lt k) ∙
    product_step k y y ∙
    rw (
      a1,
      a0,
      product_one k 1 (one-lt k),
      product_zero k 1 (one-lt k),
      zero_product k 1 (one-lt k),
      product_zero k 0 some,
      product_one k (y / 2) (half-lt k),
      xor_zero_r 1,
      zero_xor (y / 2),
    ) (apart k)
  where
    apart : (k : ℕ) → 1 * 2 ^ width k + 2 ^ width k / 2 ≡ bit_xor (2 ^ width k) (2 ^ width k / 2)
    apart k =
        let high : number (suc k) (unit k, none k) ≡ 2 ^ width k =
        ap₂ (λ a b. a * 2 ^ width k + b) (number_unit k) (number_none k) ∙ omega arith in
        let half : number (suc k) (none k, highest k) ≡ 2 ^ width k / 2 =
        ap₂ (λ a b. a * 2 ^ width k + b) (number_none k) (number_highest k) ∙ omega arith in
        let R = ring_at k in
        sym (ap₂ bit_xor (sym high) (sym half) ∙ sym (number_add (suc k) (unit k, none k) (none k, highest k))
        ∙
        ap₂ (λ a b. a * 2 ^ width k + b) (ap (number k) (R.add_zero (unit k)) ∙ number_unit k)
        (ap (number k) (R.add_comm (none k) (highest k) ∙ R.add_zero (highest k)) ∙ number_highest k))

-- 256 xor 128
pub half_of_256 : nim_add 256 128 ≡ 384
unfolding nim_add
half_of_256 = refl

-- 2 times 3 is 1
pub two_three : nim_mul 2 3 ≡ 1
unfolding nim_mul product
two_three = refl
