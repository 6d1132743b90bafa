-- The bytes of symbols, 16 of each.
use Rattle.column_defs.proofs.Words.{◌++◌, get_or, refl, sym, ap, ◌∙◌, arith, length-append, w128, to_le_bytes, append-nil, take_more, bytes_of_symbols}
use Rattle.std.proofs.Common.{◌≡◌, ℕ, ◌+◌, ◌*◌, ◌<◌, List, [], ◌∷◌, length, take}
use Rattle.std.proofs.lemmas.Grind.{flat_map-append}

-- a symbol has 16 bytes
pub length-symbol : (x : ℕ) → length (to_le_bytes w128 x) ≡ 16
length-symbol x = refl

-- one symbol more
pub bytes_of_symbols-push : (symbols : List ℕ) (x : ℕ) →
    bytes_of_symbols (symbols ++ x ∷ []) ≡ bytes_of_symbols symbols ++ to_le_bytes w128 x
bytes_of_symbols-push symbols x = flat_map-append (λ y. to_le_bytes w128 y) symbols (x ∷ [])
    ∙ ap (λ (l : List ℕ). bytes_of_symbols symbols ++ l) (append-nil (to_le_bytes w128 x))

-- the bytes of one symbol more
pub bytes_of_symbols-more : (symbols : List ℕ) (i x : ℕ) → i < length symbols → x ≡ get_or symbols i x →
    bytes_of_symbols (take (i + 1) symbols) ≡ bytes_of_symbols (take i symbols) ++ to_le_bytes w128 x
bytes_of_symbols-more symbols i x less is = ap bytes_of_symbols (take_more symbols i x less)
    ∙ bytes_of_symbols-push (take i symbols) (get_or symbols i x)
    ∙ ap (λ (y : ℕ). bytes_of_symbols (take i symbols) ++ to_le_bytes w128 y) (sym is)

-- 16 bytes a symbol
pub length-bytes_of_symbols : (symbols : List ℕ) → length (bytes_of_symbols symbols) ≡ 16 * length symbols
length-bytes_of_symbols [] = refl
length-bytes_of_symbols (x ∷ symbols) = length-append (to_le_bytes w128 x) (bytes_of_symbols symbols)
    ∙ (let rest = length-bytes_of_symbols symbols in let one = length-symbol x in let e : length
    (to_le_bytes w128 x) + length (bytes_of_symbols symbols) ≡ 16 * length (x ∷ symbols) =
    omega (arith, rest, one) in e)
