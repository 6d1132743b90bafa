-- Bytes in hexadecimal: the digits of the table are those of the definition.
use Rattle.hail_replay.proofs.Words.{◌≡◌, ℕ, zero, suc, inl, inr, ◌/◌, ◌%◌, ◌<◌, ◌==◌, ◌&&◌, Bool, true, List, [], ◌∷◌, slice_index, refl, arith, and_parts, cases_lt, eqb-true, hex_digit, hex}
use Rattle.hex.specs.Hex.{encode_with, lower_digits}

-- the digits below a bound are those of the definition
abbrev same_below : ℕ → Bool
same_below zero = true
same_below (suc d) = (slice_index lower_digits d == hex_digit d) && same_below d

same_below-at : (n d : ℕ) → same_below n ≡ true → d < n → slice_index lower_digits d ≡ hex_digit d
same_below-at zero d same below = absurd (omega arith)
same_below-at (suc n) d same below =
    let parts = and_parts (slice_index lower_digits n == hex_digit n) (same_below n) same in
    elim (cases_lt d n) [
      | inl less ↦ same_below-at n d parts.1 less
      | inr top ↦
          let e : d ≡ n = omega arith in
          rw e (eqb-true (slice_index lower_digits n) (hex_digit n) parts.0)
    ]

-- a digit of the table
digit : (d : ℕ) → d < 16 → slice_index lower_digits d ≡ hex_digit d
digit d below = same_below-at 16 d refl below

-- bytes in the digits of the table
pub hex-is : (bytes : List ℕ) → ((i : ℕ) → slice_index bytes i < 256) →
    encode_with lower_digits bytes ≡ hex bytes
unfolding encode_with
hex-is [] fits = refl
hex-is (b ∷ bytes) fits =
    let byte : b < 256 = fits 0 in
    let high : b / 16 < 16 = omega arith in
    let low : b % 16 < 16 = omega arith in
    rw (digit (b / 16) high, digit (b % 16) low, hex-is bytes (λ i. fits (suc i))) refl
