-- A forgery of a stripe is a forgery.
use Rattle.column_defs.proofs.Words.{zero, suc, ◌≤◌, ◌&&◌, true, false, Option, arith, list_any, range_with_len, upto, Object, stripes, is_wrong, is_wrong_block, block_at}
use Rattle.std.specs.Prelude.{◌≡◌, ℕ, ◌+◌, ◌<◌, Bool, List, [], ◌∷◌, length}
use Rattle.column_defs.specs.Forgeries.{IsForgery, IsStripeForgery, is_agreeing, count_of}

-- where each number that passes one test passes another, at least as many pass that one
count_of-mono : (p q : ℕ → Bool) → ((j : ℕ) → p j ≡ true → q j ≡ true) → (js : List ℕ) →
    count_of p js ≤ count_of q js
count_of-mono p q all [] = omega arith
count_of-mono p q all (j ∷ js) = grind (arith, count_of-mono p q all js, all j)

-- a number of a range that passes
any-range : (f : ℕ → Bool) (from n k : ℕ) → from ≤ k → k < from + n → f k ≡ true →
    list_any f (range_with_len from n) ≡ true
any-range f from zero k above below e = absurd (omega (arith, above, below))
any-range f from (suc n) k above below e = grind (arith, above, below, e, any-range f (from + 1) n k)

-- a provider with a wrong block of a stripe is wrong
pub wrong-block : (o : Object) (bytes : List ℕ) (j stripe : ℕ) (held : ℕ → Option (List ℕ)) →
    stripe < stripes o (length bytes) →
    is_wrong_block o bytes j stripe (held stripe) ≡ true → is_wrong o bytes j held ≡ true
unfolding is_wrong
wrong-block o bytes j stripe held below e = any-range (λ s. is_wrong_block o bytes j s (held s)) 0
    (stripes o (length bytes)) stripe (omega arith) (omega (arith, below)) e

-- both of two tests pass
and-both : (a b c : Bool) → (b ≡ true → c ≡ true) → a && b ≡ true → a && c ≡ true
and-both false b c f e = e
and-both true b c f e = f e

-- blocks that hold a forgery in one stripe hold one against the file
pub forgery-of_stripe : (o : Object) (bytes : List ℕ) (seen : ℕ → List (Option (List ℕ))) (stripe place : ℕ) →
    IsStripeForgery o bytes seen stripe place → IsForgery o bytes seen stripe place
forgery-of_stripe o bytes seen stripe place f =
    let more : count_of (λ j. is_agreeing o f.opened place f.row j && is_wrong_block o bytes j stripe
    (block_at (seen stripe) j)) (upto o.shape.n)
    ≤ count_of (λ j. is_agreeing o f.opened place f.row j && is_wrong o bytes j (λ s. block_at (seen s) j)) (upto o.shape.n) =
    count_of-mono (λ j. is_agreeing o f.opened place f.row j && is_wrong_block o bytes j stripe
    (block_at (seen stripe) j))
    (λ j. is_agreeing o f.opened place f.row j && is_wrong o bytes j (λ s. block_at (seen s) j))
    (λ j. and-both (is_agreeing o f.opened place f.row j)
    (is_wrong_block o bytes j stripe (block_at (seen stripe) j))
    (is_wrong o bytes j (λ s. block_at (seen s) j))
    (wrong-block o bytes j stripe (λ s. block_at (seen s) j) f.row_in.stripe_in)) (upto o.shape.n) in
    record {
      row_in = f.row_in;
      opened = f.opened;
      opens = f.opens;
      row = f.row;
      forged = record {
        accepted = f.forged.accepted;
        other = f.forged.other;
        tagged = f.forged.tagged;
        wrong_ones = omega (arith, f.forged.wrong_ones, more);
      };
    }
