-- Masks change no length.
use Rattle.column_defs.proofs.Words.{suc, true, false, if◌then◌else◌, ap, refl, Object, row_number, is_primary, masked, bare}
use Rattle.std.specs.Prelude.{◌≡◌, ℕ, ◌+◌, List, [], ◌∷◌, length}

-- with masks a block is as long
pub length-masked : (o : Object) (j row : ℕ) (xs : List ℕ) → length (masked o j row xs) ≡ length xs
length-masked o j row [] = refl
length-masked o j row (x ∷ xs) = ap suc (length-masked o j (row + 1) xs)

-- and without
pub length-bare : (o : Object) (j stripe : ℕ) (xs : List ℕ) → length (bare o j stripe xs) ≡ length xs
length-bare o j stripe xs =
    elim (is_primary o j) as
    (λ b. length (if b then xs else masked o j (row_number o stripe 0) xs) ≡ length xs) [
      | true ↦ refl
      | false ↦ length-masked o j (row_number o stripe 0) xs
    ]
