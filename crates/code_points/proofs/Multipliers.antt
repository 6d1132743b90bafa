-- The multipliers by their definition, as a test that the checker computes over the whole table.
use Rattle.code_points.proofs.Words.{◌≡◌, ◌≢◌, ◌≤◌, ◌<◌, ◌+◌, ◌^◌, ◌⊎◌, inl, inr, ℕ, zero, suc, Bool, true, false, cond, nat_eq, ◌==◌, List, [], ◌∷◌, refl, sym, ap, ◌∙◌, get_or, arith, bit_xor, eqb-true, nat_lt, ltb-true, ◌-◌, range_with_len, Each, product, width, nim_add, nim_mul, nim_ring, nim_mul_at, nim_inv_is, holds_below, at_each, upto, others_product, multiplier, profile_of}
use Rattle.std.proofs.lemmas.Nat.{xor_lt}
use Rattle.std.proofs.lemmas.Bool.{cases_lt}
use Rattle.hail_field.proofs.Products.{product-lt}
use Rattle.code_points.specs.declared.table.TheConstants.{FIRST}

-- the product over the other points, of bytes
abbrev pub bytes_product : ℕ → List ℕ → ℕ
bytes_product x [] = 1
bytes_product x (p ∷ points) =
    cond (nat_eq p x) (bytes_product x points) (product 3 (bit_xor x p) (bytes_product x points))

-- the entry times the product over the other points is 1
abbrev pub entry_test : (ℕ → ℕ) → ℕ → ℕ → Bool
entry_test entry n x = product 3 (entry x) (bytes_product x (range_with_len 0 n)) == 1

-- the multipliers of profile 0
abbrev pub first_entry : ℕ → ℕ
first_entry x = get_or FIRST x 0

-- the multiplier of the other profiles
abbrev pub other_entry : ℕ → ℕ
other_entry x = 1

-- the table of profile 0 passes
holds_0 : holds_below 6 (entry_test first_entry 6) ≡ true
unfolding product
holds_0 = refl

-- profile 1 passes
holds_1 : holds_below 16 (entry_test other_entry 16) ≡ true
unfolding product
holds_1 = refl

-- profile 2 passes
holds_2 : holds_below 32 (entry_test other_entry 32) ≡ true
unfolding product
holds_2 = refl

-- profile 3 passes
holds_3 : holds_below 64 (entry_test other_entry 64) ≡ true
unfolding product
holds_3 = refl

-- profile 4 passes, a quarter of its places at a time
holds_4a : holds_below 32 (entry_test other_entry 128) ≡ true
unfolding product
holds_4a = refl

holds_4b : holds_below 32 (λ x. entry_test other_entry 128 (32 + x)) ≡ true
unfolding product
holds_4b = refl

holds_4c : holds_below 32 (λ x. entry_test other_entry 128 (64 + x)) ≡ true
unfolding product
holds_4c = refl

holds_4d : holds_below 32 (λ x. entry_test other_entry 128 (96 + x)) ≡ true
unfolding product
holds_4d = refl

-- a product of bytes is a byte
pub bytes_product-lt : (x : ℕ) (points : List ℕ) → x < 256 → Each (λ p. p < 256) points →
    bytes_product x points < 2 ^ width 3
bytes_product-lt x [] hx small = omega arith
bytes_product-lt x (p ∷ points) hx small = go (nat_eq p x) (bytes_product-lt x points hx small.1)
  where
    go : (b : Bool) → bytes_product x points < 2 ^ width 3 →
        cond b (bytes_product x points) (product 3 (bit_xor x p) (bytes_product x points)) < 2 ^ width 3
    go true h = h
    go false h = product-lt 3 (bit_xor x p) (bytes_product x points) (xor_lt 8 x p hx small.0) h

-- and is the product in the field
pub others_product-bytes : (x : ℕ) (points : List ℕ) → x < 256 → Each (λ p. p < 256) points →
    others_product x points ≡ bytes_product x points
unfolding others_product nim_add
others_product-bytes x [] hx small = refl
others_product-bytes x (p ∷ points) hx small = go (nat_eq p x) (others_product-bytes x points hx small.1)
  where
    go : (b : Bool) → others_product x points ≡ bytes_product x points →
        cond b (others_product x points) (nim_mul (bit_xor x p) (others_product x points))
        ≡ cond b (bytes_product x points) (product 3 (bit_xor x p) (bytes_product x points))
    go true h = h
    go false h = ap (nim_mul (bit_xor x p)) h
        ∙ nim_mul_at 3 (bit_xor x p) (bytes_product x points) (xor_lt 8 x p hx small.0)
        (bytes_product-lt x points hx small.1)

-- the numbers of a range are below its end
pub Each-range : (a n : ℕ) → a + n ≤ 256 → Each (λ p. p < 256) (range_with_len a n)
Each-range a zero h = tt
Each-range a (suc n) h = (omega arith, Each-range (a + 1) n (omega arith))

-- an entry that passes is the multiplier
entry_is : (entry n x : ℕ) → n ≤ 256 → x < n → entry < 256 →
    product 3 entry (bytes_product x (range_with_len 0 n)) ≡ 1 → entry ≡ multiplier x (upto n)
entry_is entry n x hn hx he one =
    let small = Each-range 0 n (omega arith) in
    let same = others_product-bytes x (upto n) (omega arith) small in
    nim_inv_is (others_product x (upto n)) entry
    (nim_ring.mul_comm (others_product x (upto n)) entry ∙ ap (nim_mul entry) same ∙
    nim_mul_at 3 entry (bytes_product x (upto n)) he (bytes_product-lt x (upto n) (omega arith) small) ∙ one)

-- a quarter that passes, at a place
at_quarter : (start x : ℕ) → holds_below 32 (λ k. entry_test other_entry 128 (start + k)) ≡ true → start ≤ x →
    x < start + 32 → entry_test other_entry 128 x ≡ true
at_quarter start x holds low high =
    let e : start + (x - start) ≡ x = omega arith in
    sym (ap (entry_test other_entry 128) e)
    ∙ at_each 32 (λ k. entry_test other_entry 128 (start + k)) holds (x - start) (omega arith)

-- profile 4 at each place
at_4 : (x : ℕ) → x < 128 → entry_test other_entry 128 x ≡ true
at_4 x h = go (cases_lt x 64) (cases_lt x 32) (cases_lt x 96)
  where
    go : (x < 64) ⊎ (64 ≤ x) → (x < 32) ⊎ (32 ≤ x) → (x < 96) ⊎ (96 ≤ x) → entry_test other_entry 128 x ≡ true
    go (inl a) (inl b) c = at_each 32 (entry_test other_entry 128) holds_4a x b
    go (inl a) (inr b) c = at_quarter 32 x holds_4b b a
    go (inr a) b (inl c) = at_quarter 64 x holds_4c a c
    go (inr a) b (inr c) = at_quarter 96 x holds_4d c (omega arith)

-- each entry of the table of profile 0 is the multiplier
pub first_is : (x : ℕ) → x < 6 → first_entry x ≡ multiplier x (upto 6)
first_is x h = entry_is (first_entry x) 6 x (omega arith) h (small x h)
    (eqb-true _ _ (at_each 6 (entry_test first_entry 6) holds_0 x h))
  where
    small_holds : holds_below 6 (λ x. nat_lt (first_entry x) 256) ≡ true
    small_holds = refl

    small : (x : ℕ) → x < 6 → first_entry x < 256
    small x h = ltb-true _ _ (at_each 6 (λ x. nat_lt (first_entry x) 256) small_holds x h)

-- the multiplier of each other profile is 1
pub other_is : (number x : ℕ) → number ≢ 0 → x < (profile_of number).size →
    1 ≡ multiplier x (upto (profile_of number).size)
other_is zero x some h = absurd (some refl)
other_is (suc zero) x some h = entry_is 1 16 x (omega arith) h (omega arith)
    (eqb-true _ _ (at_each 16 (entry_test other_entry 16) holds_1 x h))
other_is (suc (suc zero)) x some h = entry_is 1 32 x (omega arith) h (omega arith)
    (eqb-true _ _ (at_each 32 (entry_test other_entry 32) holds_2 x h))
other_is (suc (suc (suc zero))) x some h = entry_is 1 64 x (omega arith) h (omega arith)
    (eqb-true _ _ (at_each 64 (entry_test other_entry 64) holds_3 x h))
other_is (suc (suc (suc (suc more)))) x some h =
    entry_is 1 128 x (omega arith) h (omega arith) (eqb-true _ _ (at_4 x h))
