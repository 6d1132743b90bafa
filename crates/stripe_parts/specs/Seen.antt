-- Blocks that were seen, of whatever size, and why they open to no stripe.
--
--   of_size size seen              == a block that was seen and has the size, else None
--   symbols_or zeros seen          == its symbols, or these
--   is_there seen                  == whether there is one
--   IsOpenFault o stripe seen fault == a row is lost, the lowest one, or memory ran out
--   LeavesRows old new fault       == what is in the place of the symbols then: zeros, or what was
use Rattle.std.specs.Prelude.{◌≡◌, ℕ, ◌==◌, Bool, true, false, List, length, replicate, Some, None, if◌then◌else◌}
use Rattle.column_defs.specs.Objects.{Object}
use Rattle.column_defs.specs.Opened.{SeenBlock, LosesRow}
use Rattle.stripe_parts.specs.declared.fault.OpenFault.{OpenFault}
use Rattle.stripe_parts.specs.declared.fault.OpenFault.TheVariants as open_fault

-- a block that has the size
abbrev pub of_size : ℕ → SeenBlock → SeenBlock
of_size size None = None
of_size size (Some block) = if length block == size then Some block else None

-- the symbols of a block, or others where there is none
abbrev pub symbols_or : List ℕ → SeenBlock → List ℕ
symbols_or zeros None = zeros
symbols_or zeros (Some block) = block

-- whether there is a block
abbrev pub is_there : SeenBlock → Bool
is_there None = false
is_there (Some block) = true

-- why seen blocks of a stripe were not opened
abbrev pub IsOpenFault : Object → ℕ → List SeenBlock → OpenFault → Type 0
IsOpenFault o stripe seen (open_fault.Lost lost) = LosesRow o stripe seen lost.row
IsOpenFault o stripe seen open_fault.Memory = Unit {0}

-- what is then in the place of the symbols
abbrev pub LeavesRows : List ℕ → List ℕ → OpenFault → Type 0
LeavesRows old new (open_fault.Lost lost) = new ≡ replicate (length old) 0
LeavesRows old new open_fault.Memory = new ≡ old
