-- What the providers hold in the run: the blocks of a file of one byte over four providers, of one of which a
-- symbol is altered.
use Rattle.std.proofs.Common.{◌≡◌, ℕ, false, List, [], ◌∷◌, length, take, slice_set, Some, flat_map, refl, sym, arith, eq-eqb}
use Rattle.code_defs.specs.ServerCode.{differences}
use Rattle.code_defs.proofs.Codewords.{differences-same}
use Rattle.column_defs.proofs.ColumnLaws.{length-column_of_symbols}
use Rattle.column_laws.proofs.RightBlocks.{opens-right}
use Rattle.column_laws.proofs.RightRows.{given-right, kept-symbol}
use Rattle.column_laws.proofs.Worked.{column-right, opens-own}
use Rattle.run_laws.proofs.SymbolBytes.{bytes_back}
use Rattle.second_half_laws.proofs.GivesRight.{own_give}
use Rattle.damage_run.specs.Words.{upto, symbols_in, columns, is_wrong_block, SeenBlock, GivesSymbols, bare, sized, column_of_symbols, symbol_of, bytes_of_symbols}
use Rattle.damage_run.specs.Schedule.{byte}
use Rattle.damage_run.proofs.Values.{whole, altered_is}
use Rattle.upgrade_run.specs.Schedule.{thing}

-- the symbols of the only stripe
abbrev pub symbols : List ℕ
symbols = symbols_in thing byte 0

-- the bytes of the symbols, cut to the length, are the byte
pub byte_back : byte ≡ take 1 (flat_map (λ stripe. bytes_of_symbols (symbols_in thing byte stripe)) (upto 1))
byte_back = sym (bytes_back thing byte (omega arith) (omega arith) refl)

-- the block that a provider is to hold
abbrev pub block : ℕ → List ℕ
block j = columns thing byte j 0

-- a block has 16 bytes
pub length-block : (j : ℕ) → length (block j) ≡ 16
length-block j = length-column_of_symbols thing symbols j 0

-- a provider's own is fetched as it is
pub own_sized : (j : ℕ) → Some (block j) ≡ sized 16 (Some (block j))
own_sized j = whole (block j) 16 (length-block j)

-- ---- the block of provider 0, which begins with the byte, with its first symbol altered

abbrev pub altered : List ℕ
altered = slice_set (block 0) 0 5

-- it keeps its size, and differs in one symbol
pub altered_so : (length altered ≡ 16) × (differences altered (block 0) ≡ 1)
unfolding column_of_symbols symbol_of
altered_so = altered_is (block 0) 15 (length-block 0)
    (kept-symbol thing byte 0 0 0 (omega arith) (omega arith) (omega arith))

-- the opened stripe has no other that differs
pub all_off : differences altered (block 0) ∷ differences (block 1) (block 1)
    ∷ differences (block 2) (block 2) ∷ differences (block 3) (block 3) ∷ [] ≡ 1 ∷ 0 ∷ 0 ∷ 0 ∷ []
all_off =
    rw (altered_so.1, differences-same (block 1), differences-same (block 2), differences-same (block 3)) refl

-- ---- what seen blocks open to

abbrev shown : ℕ → SeenBlock
shown j = Some (bare thing j 0 (block j))

altered_right : is_wrong_block thing byte 0 0 (Some altered) ≡ false
altered_right = (let e = eq-eqb (length altered) 16 altered_so.0 in rw (e, altered_so.1) refl)

-- with the altered block the stripe gives the file's symbols
pub damaged_give : GivesSymbols thing 0 (Some altered ∷ Some (block 1) ∷ Some (block 2) ∷ Some (block 3) ∷ [])
    symbols
damaged_give = given-right thing byte 1 0 _ (shown 0 ∷ shown 1 ∷ shown 2 ∷ shown 3 ∷ []) refl (omega arith)
    (rw (altered_right, column-right thing byte 1 0, column-right thing byte 2 0, column-right thing byte 3 0)
    (omega arith)) (assumption (
      opens-right thing byte 0 0 (Some altered) (omega arith) altered_right,
      opens-own thing byte 1 0 (omega arith),
      opens-own thing byte 2 0 (omega arith),
      opens-own thing byte 3 0 (omega arith),
    ))

-- and so it does once all are mended
pub all_give : GivesSymbols thing 0 (Some (block 0) ∷ Some (block 1) ∷ Some (block 2) ∷ Some (block 3) ∷ [])
    symbols
all_give = own_give thing byte 1 0 refl (omega arith)
