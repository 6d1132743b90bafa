-- How many counts an audit leaves, and how far they rise in a round.
use Rattle.column_defs.proofs.Words.{suc, ◌≤◌, true, false, Option, arith, ap, refl, cond, Each, each_at_most, value, is_seen}
use Rattle.std.specs.Prelude.{◌≡◌, ℕ, ◌+◌, List, [], ◌∷◌, length}
use Rattle.std.proofs.Common.{Bool}
use Rattle.column_defs.specs.Verdicts.{counts_after}

-- a round leaves as many counts
pub length-counts_after : (p xs : List ℕ) (heard : List (Option ℕ)) (counts : List ℕ) →
    length (counts_after p xs heard counts) ≡ length counts
length-counts_after p [] heard counts = refl
length-counts_after p (x ∷ xs) [] counts = refl
length-counts_after p (x ∷ xs) (a ∷ heard) [] = refl
length-counts_after p (x ∷ xs) (a ∷ heard) (n ∷ counts) = ap suc (length-counts_after p xs heard counts)

-- a round lets no count rise by more than one
pub counts_after-within : (k : ℕ) (p points : List ℕ) (heard : List (Option ℕ)) (counts : List ℕ) →
    Each (λ count. count ≤ k) counts → Each (λ count. count ≤ k + 1) (counts_after p points heard counts)
counts_after-within k p [] heard counts h = each_at_most k (k + 1) counts (omega arith) h
counts_after-within k p (x ∷ xs) [] counts h = each_at_most k (k + 1) counts (omega arith) h
counts_after-within k p (x ∷ xs) (answer ∷ more) [] h = tt
counts_after-within k p (x ∷ xs) (answer ∷ more) (n ∷ ns) h =
    (one (is_seen (value p x) answer) h.0, counts_after-within k p xs more ns h.1)
  where
    one : (b : Bool) → n ≤ k → cond b n (n + 1) ≤ k + 1
    one true l = omega (arith, l)
    one false l = omega (arith, l)
