-- The blocks of an object of which some rows, or the one block, were read.
--
--   seen_symbol seen row       == the symbol that was read in a row, and 0 in a row that was not read
--   seen_blocks size seen      == by stripe the block of the size that holds these symbols
--   one_block symbols          == these symbols at stripe 0, and no block at another
use Rattle.std.specs.Prelude.{ℕ, ◌+◌, ◌*◌, ◌==◌, List, map, find, Option, Some, None, if◌then◌else◌}
use Rattle.std.specs.Option.{option_map_or}
use Rattle.code_defs.specs.Points.{upto}

-- the symbol that was first read in a row, and 0 where none was
abbrev pub seen_symbol : List (ℕ × ℕ) → ℕ → ℕ
seen_symbol seen row = option_map_or (λ (r : ℕ × ℕ). r.1) (find (λ (r : ℕ × ℕ). r.0 == row) seen) 0

-- the blocks that hold these symbols
abbrev pub seen_blocks : ℕ → List (ℕ × ℕ) → ℕ → Option (List ℕ)
seen_blocks size seen stripe = Some (map (λ place. seen_symbol seen (stripe * size + place)) (upto size))

-- the block of stripe 0 alone
abbrev pub one_block : List ℕ → ℕ → Option (List ℕ)
one_block symbols stripe = if stripe == 0 then Some symbols else None
