-- Draws behind draws, and their bytes.
use Rattle.std.proofs.Common.{◌≡◌, ℕ, zero, suc, ◌+◌, ◌<◌, take, List, [], ◌∷◌, ◌++◌, length, refl, sym, ap, ◌∙◌, add-one, arith}
use Rattle.std.proofs.lemmas.List.FromFn.{map-range_with_len_more, length-map-range_with_len}
use Rattle.std.proofs.lemmas.List.{take_more_set}
use Rattle.std.proofs.Math.ListN.{set}
use Rattle.trial_maker.specs.Draws.{next_draw, draw, byte_of, bytes_behind}

-- one draw more
pub draw_more : (seed k : ℕ) → draw seed (k + 1) ≡ next_draw (draw seed k)
unfolding draw
draw_more seed k = rw (add-one k) refl

-- draws behind a draw
pub draw_behind : (seed k n : ℕ) → draw (draw seed k) n ≡ draw seed (k + n)
unfolding draw
draw_behind seed k zero =
    let same : k ≡ k + 0 = omega arith in
    ap (λ (i : ℕ). draw seed i) same
draw_behind seed k (suc n) =
    let same : suc (k + n) ≡ k + suc n = omega arith in
    ap (λ (x : ℕ). next_draw x) (draw_behind seed k n) ∙ ap (λ (i : ℕ). draw seed i) same

-- no bytes
pub no-bytes : (seed k : ℕ) → bytes_behind seed k 0 ≡ []
unfolding bytes_behind
no-bytes seed k = refl

-- the byte of one draw more
pub bytes_more : (seed k n : ℕ) → bytes_behind seed k (n + 1)
    ≡ bytes_behind seed k n ++ byte_of (next_draw (draw seed (k + n))) ∷ []
unfolding bytes_behind
bytes_more seed k n = map-range_with_len_more (λ i. byte_of (draw seed (k + i + 1))) 0 n n (omega arith)
    ∙ ap (λ (x : ℕ). bytes_behind seed k n ++ byte_of x ∷ []) (draw_more seed (k + n))

-- the bytes behind a draw
pub bytes_behind_draw : (seed k n : ℕ) → bytes_behind (draw seed k) 0 n ≡ bytes_behind seed k n
bytes_behind_draw seed k zero = no-bytes (draw seed k) 0 ∙ sym (no-bytes seed k)
bytes_behind_draw seed k (suc n) =
    let one : suc n ≡ n + 1 = omega arith in
    let none : 0 + n ≡ n = omega arith in
    ap (λ (i : ℕ). bytes_behind (draw seed k) 0 i) one
    ∙ bytes_more (draw seed k) 0 n
    ∙ ap (λ (i : ℕ). bytes_behind (draw seed k) 0 n ++ byte_of (next_draw (draw (draw seed k) i)) ∷ []) none
    ∙ ap (λ (front : List ℕ). front ++ byte_of (next_draw (draw (draw seed k) n)) ∷ [])
    (bytes_behind_draw seed k n)
    ∙ ap (λ (x : ℕ). bytes_behind seed k n ++ byte_of (next_draw x) ∷ []) (draw_behind seed k n)
    ∙ sym (bytes_more seed k n)
    ∙ sym (ap (λ (i : ℕ). bytes_behind seed k i) one)

-- how many bytes there are
pub length-bytes_behind : (seed k n : ℕ) → length (bytes_behind seed k n) ≡ n
unfolding bytes_behind
length-bytes_behind seed k n = length-map-range_with_len (λ i. byte_of (draw seed (k + i + 1))) 0 n

-- one byte more of a slice that is filled
pub filled_more : (x place last byte : ℕ) (bytes : List ℕ) → place < length bytes
    → take place bytes ≡ bytes_behind x 0 place → last ≡ draw x place → byte ≡ byte_of (next_draw last)
    → take (place + 1) (set bytes place byte) ≡ bytes_behind x 0 (place + 1)
filled_more x place last byte bytes within before last_is byte_is =
    let none : 0 + place ≡ place = omega arith in
    take_more_set bytes place byte within
    ∙ ap (λ (front : List ℕ). front ++ byte ∷ []) before
    ∙ ap (λ (b : ℕ). bytes_behind x 0 place ++ b ∷ [])
    (byte_is ∙ ap (λ (y : ℕ). byte_of (next_draw y)) (last_is ∙ ap (λ (i : ℕ). draw x i) (sym none)))
    ∙ sym (bytes_more x 0 place)

-- no draw
pub no-draw : (seed : ℕ) → draw seed 0 ≡ seed
unfolding draw
no-draw seed = refl
