-- Blocks that providers gave, one after the other.
--
--   given_of found block      == the block, where it was found
--   Grows old new found block == one block more was fetched: found or not
--   HasRoom blocks            == there is room for one more
--   blocks_in blocks          == the blocks, each where its provider gave it
--   last_blocks n blocks      == the last n of them
--   HasEmptied old new        == the blocks are gone, and their room is left
--   IsEmptyFor count each b   == there is no block yet, and room for so many, each of so many symbols
use Rattle.std.specs.Prelude.{◌≡◌, ℕ, ◌+◌, ◌-◌, ◌*◌, ◌<◌, ◌≤◌, ◌^◌, All, Bool, List, [], ◌∷◌, ◌++◌, length, drop, Option, Some, None, vec_len, vec_capacity, if◌then◌else◌}
use Rattle.column_defs.specs.Opened.{SeenBlock}
use Rattle.column_codec.specs.PresentBlocks.{present_blocks}
use Rattle.stripe_bench.specs.declared.blocks.Blocks.{Blocks}

-- what was given: the block, if it was
abbrev pub given_of : Bool → List ℕ → Option (List ℕ)
given_of found block = if found then Some block else None

-- one block of symbols more was fetched, found or not
pub record Grows (old new : Blocks) (found : Bool) (block : List ℕ) : Type 0 where
  pub present_is : new.present.items ≡ old.present.items ++ found ∷ []
  pub symbols_is : new.symbols.items ≡ old.symbols.items ++ block
  pub size_is : new.size ≡ old.size
  pub fits : length block ≡ old.size
  pub numbers : All (λ symbol. symbol < 2 ^ 128) block
  pub present_room : vec_capacity old.present ≤ vec_capacity new.present
  pub symbols_room : vec_capacity old.symbols ≤ vec_capacity new.symbols

-- there is room for one more
pub record HasRoom (b : Blocks) : Type 0 where
  pub present : vec_len b.present + 1 ≤ vec_capacity b.present
  pub symbols : vec_len b.symbols + b.size ≤ vec_capacity b.symbols

-- the blocks that were fetched, each where its provider gave it
abbrev pub blocks_in : Blocks → List SeenBlock
blocks_in b = present_blocks b.size b.present.items b.symbols.items

-- the last blocks
abbrev pub last_blocks : ℕ → Blocks → List SeenBlock
last_blocks n b =
    present_blocks b.size (drop (length b.present.items - n) b.present.items)
    (drop (length b.symbols.items - n * b.size) b.symbols.items)

-- the blocks are gone, and their room is left
pub record HasEmptied (old new : Blocks) : Type 0 where
  pub present : new.present.items ≡ []
  pub symbols : new.symbols.items ≡ []
  pub size : new.size ≡ old.size
  pub present_room : vec_capacity new.present ≡ vec_capacity old.present
  pub symbols_room : vec_capacity new.symbols ≡ vec_capacity old.symbols

-- no block yet, with room for so many, each of so many symbols
pub record IsEmptyFor (count each : ℕ) (b : Blocks) : Type 0 where
  pub size : b.size ≡ each
  pub present : b.present.items ≡ []
  pub symbols : b.symbols.items ≡ []
  pub no_present : vec_len b.present ≡ 0
  pub no_symbols : vec_len b.symbols ≡ 0
  pub room_present : count ≤ vec_capacity b.present
  pub room_symbols : count * each ≤ vec_capacity b.symbols
