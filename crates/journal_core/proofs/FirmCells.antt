-- Cells of which none is loose.
use Rattle.std.specs.Prelude.{◌≡◌, ℕ, zero, suc, false, List, [], ◌∷◌}
use Rattle.journal_core.proofs.Words.{refl, firm, is_loose_at, AreFirm}

-- no place of firm bytes is loose
none-loose : (bytes : List ℕ) (k : ℕ) → is_loose_at (firm bytes) k ≡ false
none-loose [] k = refl
none-loose (b ∷ bytes) zero = refl
none-loose (b ∷ bytes) (suc k) = none-loose bytes k

-- nor one behind any offset
pub all-firm : (bytes : List ℕ) (at n : ℕ) → AreFirm at n (firm bytes)
all-firm bytes zero n k below = none-loose bytes k
all-firm [] (suc at) n k below = refl
all-firm (b ∷ bytes) (suc at) n k below = all-firm bytes at n k below
