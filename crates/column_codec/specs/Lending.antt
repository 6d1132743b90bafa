-- A block that lends its symbols.
use Rattle.std.specs.Prelude.{ℕ, List, ◌++◌, length, take, drop}
use Rattle.std.specs.Borrow.{Lends, MutBor, Fml, Array}
use Rattle.hail_field.specs.contracts.symbol.Symbol.{the_row as symbol_row}
use Rattle.column_codec.specs.contracts.block.Block.{the_row as block_row}

-- the block ends as the symbols that were left, of which there are as many as before
abbrev pub LendsSymbols : MutBor (List ℕ) → MutBor (List ℕ) → Fml
LendsSymbols block symbols =
    Lends block_row (Array symbol_row 0) block symbols
    (λ left. take (length block.now) (left ++ drop (length left) block.now))
