-- One mask more.
use Rattle.std.specs.Prelude.{◌≡◌, ℕ, ◌+◌, ◌*◌, ◌<◌, List, [], ◌∷◌, ◌++◌, length}
use Rattle.std.proofs.Common.{ap, sym, ◌∙◌, refl, arith, take, set}
use Rattle.std.proofs.lemmas.List.{take_more_set}
use Rattle.std.proofs.lemmas.List.FromFn.{map-range_with_len_more}
use Rattle.rand_chacha.specs.ChaCha.{ChaCha, of_seed}
use Rattle.column_defs.specs.Keys.{mask_of, masks_from, stream_symbol}
use Rattle.column_defs.specs.Generator.{next_symbol, moved_on}

-- the generator under a key at the masks of a row
abbrev pub at_row : List ℕ → ℕ → ChaCha
at_row key row = record (of_seed key) { word_pos = 4 * row }

-- four words on, the generator stands at the masks of the next row
pub next_row : (g h : ChaCha) (key : List ℕ) (first i : ℕ) → g ≡ at_row key (first + i) → h ≡ moved_on g 4 →
    h ≡ at_row key (first + (i + 1))
next_row g h key first i e f =
    let n : 4 * (first + i) + 4 ≡ 4 * (first + (i + 1)) = omega arith in
    f ∙ ap (λ (x : ChaCha). moved_on x 4) e ∙ ap (λ (w : ℕ). record (of_seed key) { word_pos = w }) n

-- masks made of the first rows become those of one row more by the generator's next symbol
pub masks_more : (out key : List ℕ) (first i x : ℕ) (g : ChaCha) → i < length out →
    take i out ≡ masks_from key first i →
    g ≡ at_row key (first + i) → x ≡ next_symbol g → take (i + 1) (set out i x) ≡ masks_from key first (i + 1)
unfolding stream_symbol
masks_more out key first i x g below filled e f = take_more_set out i x below
    ∙ ap (λ (l : List ℕ). l ++ x ∷ []) filled
    ∙ ap (λ (y : ℕ). masks_from key first i ++ y ∷ []) (f ∙ ap next_symbol e)
    ∙ sym (map-range_with_len_more (mask_of key) first i (first + i) refl)
