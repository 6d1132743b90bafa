-- A list of counts that is read is the one that was written, and what was written is read again.
use Rattle.record_codec.proofs.Words.{◌≡◌, ℕ, zero, suc, ◌+◌, ◌-◌, ◌^◌, ◌<◌, ◌≤◌, Bool, true, leb, ltb, List, [], ◌∷◌, ◌++◌, length, take, drop, replicate, Option, Some, None, refl, sym, ap, subst, ◌∙◌, append_assoc, arith, w32, to_le_bytes, flat_map, list_all, drop-replicate, append-nil, take_at, length-replicate, le-leb, nat_tests, counts_bytes, ◌>>=◌, number_at, numbers_at, counts_at}
use Rattle.std.proofs.Common.{◌&&◌, length-append}
use Rattle.std.proofs.lemmas.List.{drop_at}
use Rattle.record_codec.proofs.Fields.{IsBytes, IsBytes-rest, bind_some, passed_to, some_is, Takes, Takes-then, wide32, number_takes, number_again}

-- numbers of four bytes
abbrev pub numbers : List ℕ → List ℕ
numbers ks = flat_map (to_le_bytes w32) ks

abbrev pub are_counts : List ℕ → Bool
are_counts ks = list_all (λ k. ltb k (2 ^ 32)) ks

are_counts-cons : (k : ℕ) (ks : List ℕ) → k < 2 ^ 32 → are_counts ks ≡ true → are_counts (k ∷ ks) ≡ true
are_counts-cons k ks lt all = grind (arith, nat_tests, lt, all)

are_counts-first : (k : ℕ) (ks : List ℕ) → are_counts (k ∷ ks) ≡ true → (k < 2 ^ 32) × (are_counts ks ≡ true)
are_counts-first k ks all = (grind (arith, nat_tests, all), grind (arith, nat_tests, all))

numbers_take : (n : ℕ) (bytes : List ℕ) (x : List ℕ × List ℕ) → IsBytes bytes → numbers_at n bytes ≡ Some x →
    Takes bytes (numbers x.0) x.1 × (length x.0 ≡ n) × (are_counts x.0 ≡ true)
unfolding numbers_at
numbers_take zero bytes x fits e =
    let made : List ℕ × List ℕ = ([], bytes) in
    subst (λ (y : List ℕ × List ℕ). Takes bytes (numbers y.0) y.1 × (length y.0 ≡ 0) ×
    (are_counts y.0 ≡ true)) (some_is made x e) (record { parts = refl; rest_fits = fits }, refl, refl)
numbers_take (suc n) bytes x fits e =
    let a = bind_some (number_at w32 bytes)
    (λ first. numbers_at n first.1 >>= λ others. Some (first.0 ∷ others.0, others.1)) x e in
    let b = bind_some (numbers_at n a.0.1) (λ others. Some (a.0.0 ∷ others.0, others.1)) x a.2 in
    let first = number_takes w32 (2 ^ 32) wide32 bytes a.0 fits a.1 in
    let second = numbers_take n a.0.1 b.0 first.0.rest_fits b.1 in
    let both = Takes-then bytes (to_le_bytes w32 a.0.0) a.0.1 (numbers b.0.0) b.0.1 first.0 second.0 in
    let made : List ℕ × List ℕ = (a.0.0 ∷ b.0.0, b.0.1) in
    subst (λ (y : List ℕ × List ℕ). Takes bytes (numbers y.0) y.1 × (length y.0 ≡ suc n) ×
    (are_counts y.0 ≡ true)) (some_is made x b.2)
    (both, ap suc second.1, are_counts-cons a.0.0 b.0.0 first.1 second.2)

numbers_again : (ks : List ℕ) (n : ℕ) (rest : List ℕ) → length ks ≡ n → are_counts ks ≡ true →
    numbers_at n (numbers ks ++ rest) ≡ Some (ks, rest)
unfolding numbers_at
numbers_again [] zero rest len fits = refl
numbers_again [] (suc n) rest len fits = absurd (omega arith)
numbers_again (k ∷ ks) zero rest len fits = absurd (omega arith)
numbers_again (k ∷ ks) (suc n) rest len fits =
    let each = are_counts-first k ks fits in
    let regrouped : numbers (k ∷ ks) ++ rest ≡ to_le_bytes w32 k ++ (numbers ks ++ rest) =
    append_assoc (to_le_bytes w32 k) (numbers ks) rest in
    ap (λ (l : List ℕ). numbers_at (suc n) l) regrouped
    ∙ rw (
      number_again w32 (2 ^ 32) wide32 k (numbers ks ++ rest) each.0,
      numbers_again ks n rest (omega (arith, len)) each.1,
    ) refl

-- counts that are read stand at the front of the bytes, within their limits
pub counts_takes : (bytes : List ℕ) (x : List ℕ × List ℕ) → IsBytes bytes → counts_at bytes ≡ Some x
    → Takes bytes (counts_bytes x.0) x.1 × ((leb 4 (length x.0) && leb (length x.0) 16) ≡ true) ×
    (are_counts x.0 ≡ true)
unfolding counts_at
counts_takes [] x fits e = absurd cc
counts_takes (n ∷ rest) x fits e =
    let g = passed_to (leb 4 n && leb n 16) (numbers_at n rest) x e in
    let took = numbers_take n rest x (IsBytes-rest n rest fits) g.1 in (
      record { parts = (λ i. sym took.1 i ∷ took.0.parts i); rest_fits = took.0.rest_fits },
      ap (λ (k : ℕ). leb 4 k && leb k 16) took.1 ∙ g.0,
      took.2,
    )

-- counts within their limits are read back, whatever comes behind
pub counts_again : (counts : List ℕ) (rest : List ℕ) →
    (leb 4 (length counts) && leb (length counts) 16) ≡ true → are_counts counts ≡ true →
    counts_at (counts_bytes counts ++ rest) ≡ Some (counts, rest)
unfolding counts_at
counts_again counts rest range each = rw (range, numbers_again counts (length counts) rest refl each) refl

-- ---- one after the other, as a loop does

abbrev pub with_front : List ℕ → Option (List ℕ × List ℕ) → Option (List ℕ × List ℕ)
with_front front read = read >>= λ x. Some (front ++ x.0, x.1)

regroup : (front : List ℕ) (k : ℕ) (read : Option (List ℕ × List ℕ)) →
    with_front front (read >>= λ x. Some (k ∷ x.0, x.1)) ≡ with_front (front ++ (k ∷ [])) read
regroup front k (Some x) = ap (λ (ks : List ℕ). Some (ks, x.1)) (sym (append_assoc front (k ∷ []) x.0))
regroup front k None = refl

-- one more number is read, and the others are read behind it
pub goes_on : (front : List ℕ) (count i : ℕ) (bytes : List ℕ) (k : ℕ) (after : List ℕ)
    (total : Option (List ℕ × List ℕ)) → i < count → Some (k, after) ≡ number_at w32 bytes
    → with_front front (numbers_at (count - i) bytes) ≡ total →
    with_front (front ++ (k ∷ [])) (numbers_at (count - (i + 1)) after) ≡ total
unfolding numbers_at
goes_on front count i bytes k after total lt h so_far =
    let n : count - i ≡ suc (count - (i + 1)) = omega arith in
    let one : with_front front (numbers_at (count - i) bytes)
    ≡ with_front (front ++ (k ∷ [])) (numbers_at (count - (i + 1)) after) =
    rw (n, ← h) (regroup front k (numbers_at (count - (i + 1)) after)) in
    sym one ∙ so_far

-- where a number is missing, the whole is missing
pub ends : (front : List ℕ) (count i : ℕ) (bytes : List ℕ) (total : Option (List ℕ × List ℕ)) → i < count →
    None ≡ number_at w32 bytes → with_front front (numbers_at (count - i) bytes) ≡ total → None ≡ total
unfolding numbers_at
ends front count i bytes total lt h so_far =
    let n : count - i ≡ suc (count - (i + 1)) = omega arith in
    let one : None ≡ with_front front (numbers_at (count - i) bytes) = rw (n, ← h) refl in
    one ∙ so_far

-- where no number is left to read, the front is the whole
pub is_done : (front : List ℕ) (count i : ℕ) (bytes : List ℕ) (total : Option (List ℕ × List ℕ)) → count ≤ i →
    with_front front (numbers_at (count - i) bytes) ≡ total → Some (front, bytes) ≡ total
unfolding numbers_at
is_done front count i bytes total le so_far =
    let n : count - i ≡ 0 = omega arith in
    let one : Some (front, bytes) ≡ with_front front (numbers_at (count - i) bytes) =
    rw n (ap (λ (ks : List ℕ). Some (ks, bytes)) (sym (append-nil front))) in
    one ∙ so_far

-- numbers that were read into the front of zeros
pub counts_found : (n : ℕ) (ks rest after bytes : List ℕ) → bytes ≡ n ∷ rest → 4 ≤ n → n ≤ 16 →
    length ks ≡ n → Some (ks, after) ≡ numbers_at n rest
    → Some (take n (ks ++ drop n (replicate 16 0)), after) ≡ counts_at bytes
unfolding counts_at
counts_found n ks rest after bytes is low high len found =
    let whole : counts_at (n ∷ rest) ≡ Some (ks, after) =
    rw (le-leb 4 n low, le-leb n 16 high, ← found) refl in
    ap (λ (l : List ℕ). some_counts l after) (take_at ks (drop n (replicate 16 0)) n len) ∙ sym whole
    ∙ ap counts_at (sym is)
  where
    some_counts : List ℕ → List ℕ → Option (List ℕ × List ℕ)
    some_counts l after = Some (l, after)

-- behind the counts stand zeros
pub padding : (n : ℕ) (ks : List ℕ) → length ks ≡ n →
    drop n (ks ++ drop n (replicate 16 0)) ≡ replicate (16 - n) 0
padding n ks len = drop_at ks (drop n (replicate 16 0)) n len ∙ drop-replicate n 16 0

-- counts and zeros are sixteen numbers
pub padded_room : (n : ℕ) (ks : List ℕ) → length ks ≡ n → n ≤ 16 → length (ks ++ drop n (replicate 16 0)) ≡ 16
padded_room n ks len few = omega (
  arith,
  length-append {A = ℕ} ks (drop n (replicate {A = ℕ} 16 0)),
  ap (λ (l : List ℕ). length l) (drop-replicate {X = ℕ} n 16 0),
  length-replicate {A = ℕ} (16 - n) 0,
)
