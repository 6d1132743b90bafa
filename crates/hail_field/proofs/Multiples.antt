-- The products of all bytes of a number, looked up by the halves of each
use Rattle.hail_field.proofs.Words.{◌≡◌, ℕ, ◌+◌, ◌*◌, ◌/◌, ◌%◌, ◌^◌, ◌<◌, Bool, true, ◌==◌, List, length, map, get_or, replicate, bit_and, bit_xor, w8, Fits, refl, sym, ap, ap₂, ◌∙◌, arith, zero-add, w128, to_le_bytes, and_le_r, and_mask, xor_comm, ext_get_or, length-map, get_or-map, product, nim_mul, BY_16, MULTIPLES}
use Rattle.std.proofs.Common.{eqb-true}
use Rattle.std.proofs.lemmas.Simd.{Each1-all, Each1-weaker, Each1-zip2, Each1-get_or, Each2-splat, below_from_Fits, length-zip2, get_or-zip2, get_or-replicate, swz_l, SwzOk, SwzOk-from_below, length-swz_l, get_or-swz_l_below}
use lib.Lanes.{zip2, Each1}
use Rattle.hail_field.proofs.Products.{product-lt}
use Rattle.hail_field.proofs.AllNumbers.{nim_mul_at, nim_ring}
use Rattle.hail_field.proofs.Table.{holds_below, at_each}
use Rattle.hail_field.proofs.Bounds.{times_halves_first}

-- the bytes of an entry
abbrev pub row : ℕ → List ℕ
row c = to_le_bytes w128 (get_or MULTIPLES c 0)

-- each byte of an entry is a product
abbrev row_test : ℕ → Bool
row_test c = holds_below 16 (λ b. get_or (row c) b 0 == product 3 b c)

-- each entry is 16 times the byte
abbrev by_16_test : ℕ → Bool
by_16_test c = get_or BY_16 c 0 == product 3 16 c

-- the table of products passes
rows_hold : holds_below 256 row_test ≡ true
unfolding product
rows_hold = refl

-- the table of multiples of 16 passes
by_16_holds : holds_below 256 by_16_test ≡ true
unfolding product
by_16_holds = refl

-- the product of a byte with a number below 16
pub product_at : (c b : ℕ) → c < 256 → b < 16 → get_or (row c) b 0 ≡ nim_mul b c
product_at c b hc hb = eqb-true _ _ (at_each 16 (λ b. get_or (row c) b 0 == product 3 b c)
    (at_each 256 row_test rows_hold c hc) b hb) ∙
    sym (nim_mul_at 3 b c (omega arith) hc)

-- 16 times a byte
pub by_16_at : (c : ℕ) → c < 256 → (get_or BY_16 c 0 ≡ nim_mul 16 c) × (get_or BY_16 c 0 < 256)
by_16_at c h =
    let is : get_or BY_16 c 0 ≡ product 3 16 c = eqb-true _ _ (at_each 256 by_16_test by_16_holds c h) in
    (is ∙ sym (nim_mul_at 3 16 c (omega arith) h), rw is (product-lt 3 16 c (omega arith) h))

-- the product of two bytes by the halves of one
pub product_of_halves : (c b : ℕ) → c < 256 → b < 256 →
    bit_xor (get_or (row c) (bit_and b 15) 0) (get_or (row (get_or BY_16 c 0)) (b / 16) 0) ≡ nim_mul b c
product_of_halves c b hc hb =
    let by = by_16_at c hc in
    let low : bit_and b 15 ≡ b % 16 = and_mask b 4 in
    let low_is : get_or (row c) (bit_and b 15) 0 ≡ nim_mul c (b % 16) =
    product_at c (bit_and b 15) hc (omega (arith, low)) ∙ ap (λ n. nim_mul n c) low ∙
    nim_ring.mul_comm (b % 16) c in
    let high_is : get_or (row (get_or BY_16 c 0)) (b / 16) 0 ≡ nim_mul (get_or BY_16 c 0) (b / 16) =
    product_at (get_or BY_16 c 0) (b / 16) by.1 (omega arith) ∙
    nim_ring.mul_comm (b / 16) (get_or BY_16 c 0) in
    xor_comm (get_or (row c) (bit_and b 15) 0) (get_or (row (get_or BY_16 c 0)) (b / 16) 0) ∙
    times_halves_first 2 c (get_or BY_16 c 0) b (get_or (row (get_or BY_16 c 0)) (b / 16) 0) (get_or
    (row c) (bit_and b 15) 0)
    hb (by.0 ∙ nim_ring.mul_comm 16 c) high_is low_is ∙
    nim_ring.mul_comm c b

-- sixteen bytes
abbrev pub AreLanes : List ℕ → Type 0
AreLanes v = (length v ≡ 16) × Each1 (Fits w8) v

-- a byte without its low half
abbrev pub down : ℕ → ℕ → ℕ
down a b = a / 2 ^ b

-- the low halves are places in a table
pub low_ok : (v : List ℕ) → AreLanes v → SwzOk w8 16 16 0 (zip2 bit_and v (replicate 16 15))
low_ok v fits =
    let small = Each1-all (λ a. bit_and a 15 < 16) (λ a. omega (arith, and_le_r a 15)) v in
    SwzOk-from_below w8 16 1 16 0 (zip2 bit_and v (replicate 16 15)) refl (omega
    (arith, length-zip2 bit_and v (replicate 16 15) fits.0))
    (Each1-zip2 bit_and (λ j. j < 16) v (replicate 16 15) (Each2-splat
    (λ a b. bit_and a b < 16) v 16 15 small))

-- the high halves are
pub high_ok : (v : List ℕ) → AreLanes v → SwzOk w8 16 16 0 (zip2 down v (replicate 16 4))
high_ok v fits =
    let small = Each1-weaker (λ a. a < 256) (λ a. a / 16 < 16) (λ a h. omega arith) v
    (below_from_Fits w8 v fits.1) in
    SwzOk-from_below w8 16 1 16 0 (zip2 down v (replicate 16 4)) refl (omega (
      arith,
      length-zip2 down v (replicate 16 4) fits.0,
    ))
    (Each1-zip2 down (λ j. j < 16) v (replicate 16 4) (Each2-splat (λ a b. down a b < 16) v 16 4 small))

-- what is looked up at a lane
pub looked_up : (t v : List ℕ) (g : ℕ → ℕ → ℕ) (s i : ℕ) → length v ≡ 16 → i < 16 → g (get_or v i 0) s < 16 →
    get_or (swz_l w8 16 t 0 (zip2 g v (replicate 16 s))) i 0 ≡ get_or t (g (get_or v i 0) s) 0
looked_up t v g s i long h below =
    let js : List ℕ = zip2 g v (replicate 16 s) in
    let even : length js ≡ 16 = length-zip2 g v (replicate 16 s) long ∙ long in
    let is : get_or js i 0 ≡ g (get_or v i 0) s =
    get_or-zip2 g v (replicate 16 s) i 0 0 0 (omega arith) h ∙
    ap (g (get_or v i 0)) (get_or-replicate 16 i s 0 h) in
    let first : (0 + i) / 16 ≡ 0 = omega arith in
    get_or-swz_l_below w8 16 t 0 js i (omega arith) (omega (arith, is, below)) ∙
    ap₂ (λ b j. get_or t (16 * b + j) 0) first is ∙ ap (λ k. get_or t k 0) (zero-add (g (get_or v i 0) s))

-- the products of all lanes with a byte
pub products_of_lanes : (c : ℕ) (v : List ℕ) → c < 256 → AreLanes v →
    zip2 bit_xor (swz_l w8 16 (row c) 0 (zip2 bit_and v (replicate 16 15)))
    (swz_l w8 16 (row (get_or BY_16 c 0)) 0 (zip2 down v (replicate 16 4))) ≡
    map (λ byte. nim_mul byte c) v
products_of_lanes c v hc fits = ext_get_or 0 (zip2 bit_xor low high) (map (λ byte. nim_mul byte c) v)
    (length-zip2 bit_xor low high even ∙ long_low ∙ sym (length-map v (λ byte. nim_mul byte c) ∙ fits.0))
    (λ i h. at i (omega (arith, h, length-zip2 bit_xor low high even)))
  where
    low : List ℕ
    low = swz_l w8 16 (row c) 0 (zip2 bit_and v (replicate 16 15))

    high : List ℕ
    high = swz_l w8 16 (row (get_or BY_16 c 0)) 0 (zip2 down v (replicate 16 4))

    long_low : length low ≡ 16
    long_low = length-swz_l w8 16 (row c) 0 (zip2 bit_and v (replicate 16 15)) ∙
        length-zip2 bit_and v (replicate 16 15) fits.0 ∙ fits.0

    long_high : length high ≡ 16
    long_high = length-swz_l w8 16 (row (get_or BY_16 c 0)) 0 (zip2 down v (replicate 16 4)) ∙
        length-zip2 down v (replicate 16 4) fits.0 ∙ fits.0

    even : length low ≡ length high
    even = long_low ∙ sym long_high

    at : (i : ℕ) → i < length low → get_or (zip2 bit_xor low high) i 0 ≡
        get_or (map (λ byte. nim_mul byte c) v) i 0
    at i h =
        let small : get_or v i 0 < 256 = Each1-get_or (λ a. a < 256) v i 0 (omega
        (arith, h, long_low, fits.0)) (below_from_Fits w8 v fits.1) in
        get_or-zip2 bit_xor low high i 0 0 0 h (omega (arith, h, even)) ∙
        ap₂ bit_xor
        (looked_up (row c) v bit_and 15 i fits.0 (omega (arith, h, long_low)) (omega (
          arith,
          and_le_r (get_or v i 0) 15,
        )))
        (looked_up (row (get_or BY_16 c 0)) v down 4 i fits.0 (omega (arith, h, long_low)) (omega
        (arith, small))) ∙
        product_of_halves c (get_or v i 0) hc small ∙
        sym (get_or-map (λ byte. nim_mul byte c) v i 0 0 (omega (arith, h, long_low, fits.0)))
