-- Blocks that lie one after the other in one list of symbols, with a flag each.
use Rattle.std.specs.Prelude.{ℕ, Bool, List, [], ◌∷◌, take, drop, Some, None, if◌then◌else◌}
use Rattle.column_defs.specs.Opened.{SeenBlock}

-- the blocks of a size, each where its flag says that it is present; what stands in the place of an absent
-- one does not count
abbrev pub present_blocks : ℕ → List Bool → List ℕ → List SeenBlock
present_blocks size [] symbols = []
present_blocks size (flag ∷ flags) symbols =
    (if flag then Some (take size symbols) else None) ∷ present_blocks size flags (drop size symbols)
