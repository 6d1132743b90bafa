-- Sixteen masks at hand, and the masks that are read from them.
use Rattle.std.specs.Prelude.{◌≡◌, ℕ, ◌+◌, ◌*◌, ◌/◌, ◌%◌, ◌<◌, List, [], ◌∷◌, ◌++◌, length, take}
use Rattle.column_codec.proofs.Words.{arith, ap, sym, refl, ◌∙◌, get_or, set, take_more_set, map-range_with_len_more, get_or-map-range_with_len, mask_of, masks_from}

-- the mask of a row stands among the sixteen of its number
pub mask_in : (masks key same : List ℕ) (number row x : ℕ) → masks ≡ masks_from key (number * 16) 16 →
    key ≡ same → number ≡ row / 16 → get_or masks (row % 16) x ≡ mask_of same row
mask_in masks key same number row x are e is = ap (λ (ms : List ℕ). get_or ms (row % 16) x) are
    ∙ get_or-map-range_with_len (mask_of key) (number * 16) 16 (row % 16) row x (omega arith)
    (omega (arith, is))
    ∙ ap (λ (k : List ℕ). mask_of k row) e

-- one mask more
pub masks_more : (out key same : List ℕ) (first i x : ℕ) → i < length out →
    take i out ≡ masks_from key first i → same ≡ key → x ≡ mask_of same (first + i) →
    take (i + 1) (set out i x) ≡ masks_from key first (i + 1)
masks_more out key same first i x below filled e is = take_more_set out i x below
    ∙ ap (λ (l : List ℕ). l ++ x ∷ []) filled
    ∙ ap (λ (y : ℕ). masks_from key first i ++ y ∷ []) (is ∙ ap (λ (k : List ℕ). mask_of k (first + i)) e)
    ∙ sym (map-range_with_len_more (mask_of key) first i (first + i) refl)
