-- The steps of the products of bytes, and of the products of symbols that are looked up.
use Rattle.server_code.proofs.Words.{◌≡◌, ℕ, ◌+◌, ◌*◌, ◌/◌, ◌<◌, ◌⊎◌, inl, inr, ◌==◌, List, length, map, get_or, set, replicate, bit_and, bit_xor, w8, refl, sym, ap, ap₂, ◌∙◌, arith, eqb-true, and_le_r, ext_get_or, length-map, get_or-map, get_or-set_same, get_or-set_other, add_mul, nim_add, nim_mul, nim_ring, at_each, AreLanes, down, looked_up, AreMultiples, Multiples}
use Rattle.std.proofs.lemmas.Simd.{Each1-get_or, below_from_Fits, length-zip2, get_or-zip2, swz_l, length-swz_l}
use lib.Lanes.{zip2}
use Rattle.server_code.proofs.MakeSteps.{last_or_before}

-- one product more
pub steps_more : (out : List ℕ) (step c b from product : ℕ) → b < length out → from ≡ b →
    product ≡ nim_mul (step * b) c → ((j : ℕ) → j < b → get_or out j 0 ≡ nim_mul (step * j) c) → (j : ℕ) →
    j < b + 1 → get_or (set out from product) j 0 ≡ nim_mul (step * j) c
steps_more out step c b from product room is_b is before j h = rw is_b (go (last_or_before j b h))
  where
    go : (j ≡ b) ⊎ (j < b) → get_or (set out b product) j 0 ≡ nim_mul (step * j) c
    go (inl e) = rw e (get_or-set_same out b product 0 room ∙ is)
    go (inr less) = get_or-set_other out b j product 0 (omega arith) ∙ before j less

-- the product of a byte, which is the sum of its halves, by those of its halves
pub product_of_halves : (multiples : Multiples) (c b : ℕ) → AreMultiples c multiples → b < 256 →
    bit_xor (get_or multiples.low (bit_and b 15) 0) (get_or multiples.high (b / 16) 0) ≡ nim_mul b c
unfolding nim_add
product_of_halves multiples c b are h =
    ap₂ bit_xor (are.low (bit_and b 15) (omega (arith, and_le_r b 15))) (are.high (b / 16) (omega arith)) ∙
    sym (add_mul nim_ring (bit_and b 15) (16 * (b / 16)) c) ∙
    ap (λ n. nim_mul n c)
    (eqb-true _ _ (at_each 256 (λ b. bit_xor (bit_and b 15) (16 * (b / 16)) == b) refl b h))

-- the products of all lanes
pub products_of_lanes : (multiples : Multiples) (c : ℕ) (v : List ℕ) → AreMultiples c multiples → AreLanes v →
    zip2 bit_xor (swz_l w8 16 multiples.low 0 (zip2 bit_and v (replicate 16 15)))
    (swz_l w8 16 multiples.high 0 (zip2 down v (replicate 16 4))) ≡
    map (λ byte. nim_mul byte c) v
products_of_lanes multiples c v are fits =
    ext_get_or 0 (zip2 bit_xor low high) (map (λ byte. nim_mul byte c) v)
    (length-zip2 bit_xor low high even ∙ long_low ∙ sym (length-map v (λ byte. nim_mul byte c) ∙ fits.0))
    (λ i h. at i (omega (arith, h, length-zip2 bit_xor low high even)))
  where
    low : List ℕ
    low = swz_l w8 16 multiples.low 0 (zip2 bit_and v (replicate 16 15))

    high : List ℕ
    high = swz_l w8 16 multiples.high 0 (zip2 down v (replicate 16 4))

    long_low : length low ≡ 16
    long_low = length-swz_l w8 16 multiples.low 0 (zip2 bit_and v (replicate 16 15))
        ∙ length-zip2 bit_and v (replicate 16 15) fits.0 ∙ fits.0

    long_high : length high ≡ 16
    long_high = length-swz_l w8 16 multiples.high 0 (zip2 down v (replicate 16 4))
        ∙ length-zip2 down v (replicate 16 4) fits.0 ∙ fits.0

    even : length low ≡ length high
    even = long_low ∙ sym long_high

    at : (i : ℕ) → i < length low → get_or (zip2 bit_xor low high) i 0
        ≡ get_or (map (λ byte. nim_mul byte c) v) i 0
    at i h =
        let small : get_or v i 0 < 256 = Each1-get_or (λ a. a < 256) v i 0
        (omega (arith, h, long_low, fits.0)) (below_from_Fits w8 v fits.1) in
        get_or-zip2 bit_xor low high i 0 0 0 h (omega (arith, h, even)) ∙
        ap₂ bit_xor
        (looked_up multiples.low v bit_and 15 i fits.0 (omega (arith, h, long_low))
        (omega (arith, and_le_r (get_or v i 0) 15)))
        (looked_up multiples.high v down 4 i fits.0 (omega (arith, h, long_low)) (omega (arith, small))) ∙
        product_of_halves multiples c (get_or v i 0) are small ∙
        sym (get_or-map (λ byte. nim_mul byte c) v i 0 0 (omega (arith, h, long_low, fits.0)))
