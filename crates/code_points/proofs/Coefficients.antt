-- The coefficients of codewords are bytes, since the points are.
use Rattle.code_points.proofs.Words.{◌≡◌, ◌≤◌, ◌<◌, ℕ, zero, suc, arith, List, [], ◌∷◌, map, get_or, set, replicate, zero-add, get_or-map-range_with_len, Each, nim, nim_add, nim_mul, nim_inv, nim_laws, nim_ring, nim_add-lt, nim_mul-lt, nim_inv-lt, value_over, vanish_over, value-vanish, value, vanish, upto, others_product, profile_of, size_is, size-bound, coefficient}
use Rattle.code_points.proofs.Multipliers.{Each-range, bytes_product-lt, others_product-bytes}

-- the product of all x + point
vanish-lt : (points : List ℕ) (x : ℕ) → x < 256 → Each (λ p. p < 256) points → value (vanish points) x < 256
unfolding vanish_over value_over
vanish-lt [] x hx small =
    let e : nim_add 1 (nim_mul x 0) ≡ 1 = cc (nim_ring.mul_zero x, nim_ring.add_zero 1) in rw e (omega arith)
vanish-lt (p ∷ points) x hx small =
    rw (value-vanish nim nim_laws p points x) (nim_mul-lt 3 (nim_add p x) (value (vanish points) x)
    (nim_add-lt 3 p x small.0 hx) (vanish-lt points x hx small.1))

-- a coefficient of a place behind the kept ones
pub coefficient-lt : (keep place k : ℕ) → keep ≤ 256 → place < 256 → k < keep → coefficient keep place k < 256
coefficient-lt keep place k wide hp hk =
    nim_mul-lt 3 (nim_mul (value (vanish (upto keep)) place) (nim_inv (nim_add place k)))
    (nim_inv (others_product k (upto keep))) (nim_mul-lt 3 (value (vanish (upto keep)) place)
    (nim_inv (nim_add place k)) (vanish-lt (upto keep) place hp small)
    (nim_inv-lt 3 (nim_add place k) (nim_add-lt 3 place k hp (omega arith))))
    (nim_inv-lt 3 (others_product k (upto keep)) (rw (others_product-bytes k (upto keep) (omega arith) small)
    (bytes_product-lt k (upto keep) (omega arith) small)))
  where
    small : Each (λ p. p < 256) (upto keep)
    small = Each-range 0 keep (omega arith)

-- the row of a place behind the kept ones, in a row of the table
pub parity-lt : (number size keep place : ℕ) (row : List ℕ) (k : ℕ) → size ≡ (profile_of number).size →
    keep ≡ (profile_of number).keep → place < size →
    row ≡ map (coefficient keep place) (upto keep) → k < keep → get_or row k 0 < 256
parity-lt number size keep place row k is_size is_keep within is hk =
    let wide : keep ≤ 256 = omega (arith, size_is number, size-bound number) in
    rw (is, get_or-map-range_with_len (coefficient keep place) 0 keep k k 0 hk (zero-add k))
    (coefficient-lt keep place k wide (omega (arith, size-bound number)) hk)

-- zeros are bytes
zeros : (n k : ℕ) → get_or (replicate n 0) k 0 < 256
zeros zero k = omega arith
zeros (suc n) zero = omega arith
zeros (suc n) (suc k) = zeros n k

-- zeros and a 1 are bytes
pub kept-lt : (n place k : ℕ) → get_or (set (replicate n 0) place 1) k 0 < 256
kept-lt zero place k = omega arith
kept-lt (suc n) zero zero = omega arith
kept-lt (suc n) zero (suc k) = zeros n k
kept-lt (suc n) (suc place) zero = omega arith
kept-lt (suc n) (suc place) (suc k) = kept-lt n place k
