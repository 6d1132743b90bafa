-- The number of bytes that zeros are put after.
use Rattle.std.specs.Prelude.{◌≡◌, ℕ, zero, suc, ◌+◌, ◌-◌, ◌*◌, ◌≤◌, ◌<◌, Bool, true, false, nat_lt, List, ◌++◌, length, take, drop, replicate, min}
use Rattle.std.proofs.Common.{arith, ap, sym, refl, ◌∙◌, get_or}
use Rattle.std.specs.Int.{w128, from_le_bytes}
use Rattle.std.proofs.lemmas.List.{get_or-take, get_or_past, length-take-le, take_all, drop_min}
use Rattle.std.proofs.Math.ListN.{length-drop}
use Rattle.std.proofs.Math.ListN.{get_or-append}
use Rattle.std.proofs.Math.Seq.{get_or-append_right}
use Rattle.algebra_laws.proofs.Numbers.{from_le_bytes-same}
use Rattle.algebra_laws.proofs.Lists.{get_or-zeros}

-- also after some of them
drop-zeros : (k n i : ℕ) → ◌≡◌ {A = ℕ} (get_or (drop k (replicate n 0)) i 0) 0
drop-zeros zero n i = get_or-zeros n i
drop-zeros (suc k) zero i = refl
drop-zeros (suc k) (suc n) i = drop-zeros k n i

padded-at : (bytes : List ℕ) (n i : ℕ) → n ≡ min (length bytes) 16 → i < 16 →
    get_or (take n bytes ++ drop n (replicate 16 0)) i 0 ≡ get_or bytes i 0
padded-at bytes n i is below = go (nat_lt i n) refl
  where
    long : length (take n bytes) ≡ n
    long = length-take-le n bytes (omega (arith, is))

    go : (b : Bool) → nat_lt i n ≡ b → get_or (take n bytes ++ drop n (replicate 16 0)) i 0 ≡ get_or bytes i 0
    go true less =
        let before : i < n = grind (arith, less) in
        get_or-append (take n bytes) (drop n (replicate 16 0)) 0 i (omega (arith, before, long))
        ∙ get_or-take n bytes i 0 before
    go false more =
        let after : n ≤ i = grind (arith, more) in
        get_or-append_right (take n bytes) (drop n (replicate 16 0)) i 0 (omega (arith, after, long))
        ∙ drop-zeros n 16 (i - length (take n bytes))
        ∙ sym (get_or_past bytes i 0 (omega (arith, is, after, below)))

-- the first 16 bytes, zeros in place of absent ones, make the same number as the bytes themselves
pub padded-value : (xs bytes : List ℕ) (n : ℕ) → n ≡ min (length bytes) 16 → xs ≡ take n bytes →
    from_le_bytes w128 (xs ++ drop n (replicate 16 0)) ≡ from_le_bytes w128 bytes
padded-value xs bytes n is e = ap (λ (l : List ℕ). from_le_bytes w128 (l ++ drop n (replicate 16 0))) e
    ∙ from_le_bytes-same (take n bytes ++ drop n (replicate 16 0)) bytes
    (λ i below. padded-at bytes n i is below)

-- a symbol is the number of the bytes from its first one on, as far as there are any
pub rest-value : (bytes : List ℕ) (from number start : ℕ) → from ≡ number →
    start ≡ min (16 * from) (length bytes) →
    from_le_bytes w128 (take (length bytes - start) (drop start bytes))
    ≡ from_le_bytes w128 (drop (16 * number) bytes)
rest-value bytes from number start e is = ap (λ (l : List ℕ). from_le_bytes w128 l)
    (take_all (length bytes - start) (drop start bytes) (omega (arith, length-drop start bytes))
    ∙ ap (λ (n : ℕ). drop n bytes) is ∙ drop_min (16 * from) bytes ∙ ap (λ (n : ℕ). drop (16 * n) bytes) e)
