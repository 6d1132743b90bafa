-- A number word is short, since it has no leading zero.
use Rattle.std.proofs.Common.{◌≡◌, ◌≢◌, ℕ, suc, ◌+◌, ◌*◌, ◌^◌, ◌<◌, ◌≤◌, List, [], ◌∷◌, length, ap, ◌∙◌, inl, inr, ◌⊎◌, arith, lit<}
use Rattle.std.proofs.Math.Nat.{pow-le-pow_right, mul-le-mul_right, pow-suc}
use Rattle.std.proofs.lemmas.Bool.{cases_eq}
use Rattle.std.proofs.lemmas.Bool.Decides.{nat_tests}
use Rattle.std.specs.Char.{digit_value}
use Rattle.std.specs.Str.Parse.{digits_value_after}
use Rattle.command_defs.specs.Words.{IsNumberWord}

-- each digit behind a number makes it ten times as large, or larger
digits_value_after-large : (n : ℕ) (digits : List ℕ) → n * 10 ^ length digits ≤ digits_value_after 10 n digits
digits_value_after-large n [] = omega arith
digits_value_after-large n (c ∷ digits) =
    rw pow-suc (larger (10 ^ length digits) (digits_value_after-large (n * 10 + digit_value c) digits))
  where
    larger : (power : ℕ) →
        (n * 10 + digit_value c) * power ≤ digits_value_after 10 (n * 10 + digit_value c) digits →
        n * (power * 10) ≤ digits_value_after 10 (n * 10 + digit_value c) digits
    larger power h = omega (arith, h)

-- a digit other than `0` counts one at least
digit_value-some : (c : ℕ) → digit_value c < 10 → c ≢ 48 → 1 ≤ digit_value c
digit_value-some c digit other = grind (arith, nat_tests)

-- ten to the k is below 2 ^ 128 only where k is below 39
few : (k digit value : ℕ) → 1 ≤ digit → digit * 10 ^ k ≤ value → value < 2 ^ 128 → suc k ≤ 39
few k digit value some large small = elim (few_or_many k) [
  | inl lower ↦ lower
  | inr many ↦ absurd (omega
      (arith, pow-le-pow_right {n = 10} (lit< tt) many, mul-le-mul_right (10 ^ k) some))
]
  where
    few_or_many : (k : ℕ) → (suc k ≤ 39) ⊎ (39 ≤ k)
    few_or_many k = grind arith

-- a number word has at most 39 digits
pub length-number_word : (text : List ℕ) (number : ℕ) → IsNumberWord text number → length text ≤ 39
length-number_word [] number word = omega arith
length-number_word (c ∷ digits) number word = elim (cases_eq c 48) [
  | inl zero_first ↦ omega (arith, word.leading zero_first)
  | inr other ↦
      let value : digits_value_after 10 (digit_value c) digits ≡ number =
      ap (λ (n : ℕ). digits_value_after 10 n digits) (omega arith) ∙ word.value in
      few (length digits) (digit_value c) (digits_value_after 10 (digit_value c) digits)
      (digit_value-some c word.numeral.1.0 other) (digits_value_after-large (digit_value c) digits)
      (omega (arith, value, word.small))
]
