-- Rows and weights, word by word.
use Rattle.std.specs.Prelude.{◌≡◌, ℕ, ◌+◌, ◌*◌, ◌%◌, ◌^◌, ◌<◌, ◌≤◌, ◌==◌, List, length, if◌then◌else◌}
use Rattle.std.proofs.Common.{arith, ap, sym, refl, ◌∙◌, get_or, set, subst}
use Rattle.std.proofs.lemmas.List.Edits.{fill_by_more}
use Rattle.rand_chacha.specs.ChaCha.{ChaCha, word_at, key_of, of_seed}
use Rattle.column_defs.specs.Keys.{stream_symbol}
use Rattle.column_defs.specs.Challenges.{alpha, picked_row}
use Rattle.column_defs.specs.Generator.{moved_on, next_symbol}
use Rattle.challenge.specs.Rows.{at_word, next_rows}

-- one row more is drawn
pub draw_more : (g : ChaCha) (rows i x : ℕ) (out : List ℕ) → i < length out → x ≡ next_rows g rows i
    → ((k : ℕ) → k < i → get_or out k 0 ≡ next_rows g rows k)
    → (k : ℕ) → k < i + 1 → get_or (set out i x) k 0 ≡ next_rows g rows k
draw_more g rows i x out below e each k within =
    subst (λ (y : ℕ). get_or (set out i y) k 0 ≡ next_rows g rows k) (sym e)
    (fill_by_more (next_rows g rows) out i 0 below each k within)

-- the generator stands at the next row
pub next_place : (g h r : ChaCha) (k : ℕ) → h ≡ moved_on g (2 * k) → r ≡ moved_on h 2 →
    r ≡ moved_on g (2 * (k + 1))
next_place g h r k e f =
    let n : g.word_pos + 2 * k + 2 ≡ g.word_pos + 2 * (k + 1) = omega arith in
    f ∙ ap (λ (x : ChaCha). moved_on x 2) e ∙ ap (λ (w : ℕ). record g { word_pos = w }) n

-- the rows behind the weight are those of the picks
pub row_drawn : (seed : List ℕ) (rows k : ℕ) → next_rows (at_word seed 4) rows k ≡ picked_row seed rows k
unfolding picked_row
row_drawn seed rows k =
    let e : 4 + 2 * k + 1 ≡ 5 + 2 * k = omega arith in
    ap (λ (w : ℕ). (word_at 10 (key_of seed) 0 (4 + 2 * k) + word_at 10 (key_of seed) 0 w * 2 ^ 32) % rows) e

-- a picked row is one of the rows
pub row_below : (seed : List ℕ) (rows k : ℕ) → 1 ≤ rows → picked_row seed rows k < rows
unfolding picked_row
row_below seed rows k some = omega (arith, some)

-- the first symbol gives the weight
pub weight_drawn : (seed : List ℕ)
    → (if next_symbol (of_seed seed) == 0 then 1 else next_symbol (of_seed seed)) ≡ alpha seed
unfolding alpha stream_symbol
weight_drawn seed = refl
