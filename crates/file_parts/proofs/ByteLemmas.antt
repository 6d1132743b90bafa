-- The bytes of a block, symbol by symbol.
use Rattle.std.specs.Prelude.{◌≡◌, ℕ, ◌+◌, ◌*◌, ◌<◌, List, [], ◌∷◌, ◌++◌, length, take, drop}
use Rattle.std.specs.Int.{w128, to_le_bytes}
use Rattle.std.proofs.Common.{arith, ap, sym, ◌∙◌, get_or, set}
use Rattle.std.proofs.Math.Seq.{take-add}
use Rattle.std.proofs.lemmas.List.{take_more, take_more_set}
use Rattle.std.proofs.lemmas.Slice.{take-put_mid}
use Rattle.column_defs.specs.Objects.{bytes_of_symbols}
use Rattle.column_defs.proofs.SymbolBytes.{bytes_of_symbols-push}
use borrow.Rule.Slice.PartMut.{put_mid}

-- the bytes of one symbol more are written
pub written_more : (block out piece : List ℕ) (k n symbol : ℕ) → k < length block →
    symbol ≡ get_or block k symbol → length out ≡ 16 * length block → length piece ≡ 16 →
    piece ≡ to_le_bytes w128 symbol → take (16 * k) out ≡ bytes_of_symbols (take k block) →
    take (16 * (k + 1)) (put_mid (16 * k) n out piece) ≡ bytes_of_symbols (take (k + 1) block)
written_more block out piece k n symbol below is long wide e before =
    take-put_mid (16 * k) n out piece (16 * (k + 1)) (omega arith) (omega arith)
    ∙ ap (λ (l : List ℕ). l ++ piece) before
    ∙ ap (λ (l : List ℕ). bytes_of_symbols (take k block) ++ l) e
    ∙ sym (bytes_of_symbols-push (take k block) symbol)
    ∙ ap bytes_of_symbols (ap (λ (x : ℕ). take k block ++ x ∷ []) is ∙ sym (take_more block k symbol below))

-- one symbol more is read
pub read_more : (bytes out : List ℕ) (k n symbol : ℕ) → k < length out → n ≡ 16 →
    to_le_bytes w128 symbol ≡ take n (drop (16 * k) bytes) →
    bytes_of_symbols (take k out) ≡ take (16 * k) bytes →
    bytes_of_symbols (take (k + 1) (set out k symbol)) ≡ take (16 * (k + 1)) bytes
read_more bytes out k n symbol below wide e before = ap bytes_of_symbols (take_more_set out k symbol below)
    ∙ bytes_of_symbols-push (take k out) symbol
    ∙ ap (λ (l : List ℕ). l ++ to_le_bytes w128 symbol) before
    ∙ ap (λ (l : List ℕ). take (16 * k) bytes ++ l) (e ∙ ap (λ (m : ℕ). take m (drop (16 * k) bytes)) wide)
    ∙ sym (take-add (16 * k) 16 bytes)
    ∙ ap (λ (m : ℕ). take m bytes) (let same : 16 * k + 16 ≡ 16 * (k + 1) = omega arith in same)
