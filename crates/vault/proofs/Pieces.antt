-- The symbols of a stripe, out of its own bytes alone.
use Rattle.vault.proofs.Words.{◌≡◌, ◌⊎◌, ℕ, ◌+◌, ◌*◌, ◌<◌, ◌≤◌, List, [], ◌++◌, drop, sym, ap, ◌∙◌, inl, inr, arith, w128, from_le_bytes, drop-append-add, append-nil, get_or-drop, get_or_append_left, map-range_same, Object, stripe_symbols, symbol_of, symbols_in}
use Rattle.std.proofs.Common.{length}
use Rattle.algebra_laws.proofs.Numbers.{from_le_bytes-same}

-- a symbol behind other bytes
symbol_behind : (before bytes : List ℕ) (number i : ℕ) → 16 * number ≡ length before + 16 * i
    → symbol_of (before ++ bytes) number ≡ symbol_of bytes i
unfolding symbol_of
symbol_behind before bytes number i is =
    ap (from_le_bytes w128) (ap (λ k. drop k (before ++ bytes)) is ∙ drop-append-add before bytes (16 * i))

-- a symbol whose bytes are all there
symbol_before : (bytes more : List ℕ) (i : ℕ) → 16 * i + 16 ≤ length bytes
    → symbol_of (bytes ++ more) i ≡ symbol_of bytes i
unfolding symbol_of
symbol_before bytes more i room = from_le_bytes-same (drop (16 * i) (bytes ++ more)) (drop (16 * i) bytes)
    (λ k less. get_or-drop (16 * i) (bytes ++ more) k 0
    ∙ get_or_append_left bytes more 0 (16 * i + k) (omega (arith, room, less))
    ∙ sym (get_or-drop (16 * i) bytes k 0))

-- the symbols of a stripe are those of the first stripe of its piece, which is whole or the last
pub symbols_of_piece : (o : Object) (before piece rest : List ℕ) (stripe : ℕ) →
    length before ≡ stripe * (16 * stripe_symbols o) → (16 * stripe_symbols o ≤ length piece) ⊎ (rest ≡ []) →
    symbols_in o (before ++ (piece ++ rest)) stripe ≡ symbols_in o piece 0
symbols_of_piece o before piece rest stripe place whole =
    map-range_same (λ i. symbol_of (before ++ (piece ++ rest)) (stripe * stripe_symbols o + i))
    (λ i. symbol_of piece (0 * stripe_symbols o + i)) 0 (stripe_symbols o)
    (λ i less. symbol_behind before (piece ++ rest) (stripe * stripe_symbols o + i) i (at i)
    ∙ own i (omega (arith, less)) ∙ ap (symbol_of piece) (first i))
  where
    at : (i : ℕ) → 16 * (stripe * stripe_symbols o + i) ≡ length before + 16 * i
    at i = omega (arith, place)

    first : (i : ℕ) → i ≡ 0 * stripe_symbols o + i
    first i = omega arith

    own : (i : ℕ) → i < stripe_symbols o → symbol_of (piece ++ rest) i ≡ symbol_of piece i
    own i less = elim whole [
      | inl room ↦ symbol_before piece rest i (omega (arith, room, less))
      | inr none ↦ ap (λ (l : List ℕ). symbol_of (piece ++ l) i) none
          ∙ ap (λ (l : List ℕ). symbol_of l i) (append-nil piece)
    ]
