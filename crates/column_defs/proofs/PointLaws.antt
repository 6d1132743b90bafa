-- The points of an object's providers are apart, since each ends in the provider's number.
use Rattle.column_defs.proofs.Words.{◌≢◌, zero, suc, ◌%◌, ◌≤◌, true, false, map, slice_index, slice_set, if◌then◌else◌, arith, sym, ◌∙◌, ap, refl, range_with_len, w128, from_le_bytes, Each, file_key, secret_point, Object, is_primary, point, points}
use Rattle.std.specs.Prelude.{◌≡◌, ℕ, ◌+◌, ◌<◌, List, [], ◌∷◌, take, length}
use Rattle.sha2.proofs.Facts256.{length-sha256}
use Rattle.algebra_laws.specs.Field.{Apart}

-- the lowest byte of a number is the first one
low-byte : (bytes : List ℕ) → from_le_bytes w128 bytes % 256 ≡ slice_index bytes 0 % 256
low-byte bytes = omega arith

-- a list that is not empty begins with what was put there
first-set : (xs : List ℕ) (x : ℕ) → 1 ≤ length xs → slice_index (slice_set xs 0 x) 0 ≡ x
first-set [] x h = absurd (omega (arith, h))
first-set (y ∷ ys) x h = refl

take-not_empty : (xs : List ℕ) → length xs ≡ 32 → 1 ≤ length (take 16 xs)
take-not_empty [] h = absurd (omega (arith, h))
take-not_empty (y ∷ ys) h = omega arith

secret-low : (master : List ℕ) (id j : ℕ) → j < 256 → secret_point master id j % 256 ≡ j
unfolding secret_point file_key
secret-low master id j below =
    let key = file_key master 80 id j in
    let e : slice_index (slice_set (take 16 key) 0 j) 0 ≡ j =
    first-set (take 16 key) j (take-not_empty key (length-sha256 _)) in
    let low = low-byte (slice_set (take 16 key) 0 j) in
    low ∙ ap (λ n. n % 256) e ∙ omega (arith, below)

-- the lowest byte of a provider's point is its number
pub point-low : (o : Object) (j : ℕ) → j < 256 → point o j % 256 ≡ j
point-low o j below =
    elim (is_primary o j) as (λ b. (if b then j else secret_point o.master o.id j) % 256 ≡ j) [
      | true ↦ omega (arith, below)
      | false ↦ secret-low o.master o.id j below
    ]

-- the point of a provider is none of those of the providers after it
Each-after : (o : Object) (j from n : ℕ) → j < from → from + n ≤ 256 →
    Each (λ y. point o j ≢ y) (map (point o) (range_with_len from n))
Each-after o j from zero before within = tt
Each-after o j from (suc n) before within = (
  λ e. absurd (omega (
    arith,
    sym (point-low o j (omega arith)) ∙ ap (λ x. x % 256) e
        ∙ point-low o from (omega arith),
  )),
  Each-after o j (from + 1) n (omega arith) (omega arith),
)

Apart-range : (o : Object) (from n : ℕ) → from + n ≤ 256 → Apart (map (point o) (range_with_len from n))
Apart-range o from zero within = tt
Apart-range o from (suc n) within =
    (Each-after o from (from + 1) n (omega arith) (omega arith), Apart-range o (from + 1) n (omega arith))

-- no two providers of an object have the same point
pub Apart-points : (o : Object) → o.shape.n ≤ 256 → Apart (points o)
Apart-points o within = Apart-range o 0 o.shape.n (omega (arith, within))
