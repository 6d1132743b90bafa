-- Plain facts on numbers.
use Rattle.std.proofs.Common.{◌≡◌, ◌≢◌, ℕ, zero, suc, ◌+◌, ◌<◌, ◌≤◌, ◌⊎◌, List, get_or, ap, sym, ◌∙◌, arith}
use Rattle.std.specs.Int.{w128, from_le_bytes, byte_worth, sum_through}

-- a number is not two that differ
pub not_two : (x n m : ℕ) → x ≡ n → x ≡ m → n ≢ m → ⊥
not_two x n m is also other = other (sym is ∙ also)

-- the last number below n + 1, or one before it
pub last_or_before : (b n : ℕ) → b < suc n → (b ≡ n) ⊎ (b < n)
last_or_before b n h = grind arith

-- sums of the same parts
sum_through-same : (f g : ℕ → ℕ) (k : ℕ) → ((i : ℕ) → i ≤ k → f i ≡ g i) → sum_through f k ≡ sum_through g k
sum_through-same f g zero same = same 0 (omega arith)
sum_through-same f g (suc k) same =
    (λ i. sum_through-same f g k (λ j below. same j (omega (arith, below))) i + same (suc k) (omega arith) i)

-- numbers of the same first 16 bytes
pub from_le_bytes-same : (xs ys : List ℕ) → ((i : ℕ) → i < 16 → get_or xs i 0 ≡ get_or ys i 0) →
    from_le_bytes w128 xs ≡ from_le_bytes w128 ys
from_le_bytes-same xs ys same = sum_through-same (λ i. byte_worth i (get_or xs i 0))
    (λ i. byte_worth i (get_or ys i 0)) 15 (λ i below. ap (byte_worth i) (same i (omega (arith, below))))
