-- The blocks that providers are to hold, and who holds them.
--
--   own_blocks o bytes stripe  == the own blocks of all providers of a stripe, in order
--   IsExact start ms from      == each provider that was not replaced since a moment holds its own column
--                                 exactly, of each stripe of each file in effect
use Rattle.std.specs.Prelude.{◌≡◌, ℕ, ◌<◌, false, List, length, map, Some}
use Rattle.code_defs.specs.Points.{upto}
use Rattle.column_defs.specs.Objects.{Object, stripes}
use Rattle.column_defs.specs.Columns.{columns}
use Rattle.column_defs.specs.Opened.{SeenBlock}
use Rattle.record_defs.specs.Table.{File}
use Rattle.machine_defs.specs.States.{State, setup_in, file_object, file_in}
use Rattle.machine_defs.specs.Runs.{Moment, now, is_replaced_since}
use Rattle.machine_defs.specs.Deeds.{told_block}

-- the own blocks of all providers of a stripe
abbrev pub own_blocks : Object → List ℕ → ℕ → List SeenBlock
own_blocks o bytes stripe = map (λ j. Some (columns o bytes j stripe)) (upto o.shape.n)

-- each provider that was not replaced since a moment holds its own column of each stripe of each file in
-- effect
abbrev pub IsExact : State → List Moment → ℕ → Type 0
IsExact start ms from =
    (name : List ℕ) (file : File) (j stripe : ℕ) → file_in (now start ms) name ≡ Some file
    → j < (setup_in (now start ms)).n →
    stripe < stripes (file_object (now start ms) file) (length ((now start ms).bytes file.id))
    → is_replaced_since from j ms ≡ false →
    told_block (now start ms) j file.id stripe
    ≡ Some (Some (columns (file_object (now start ms) file) ((now start ms).bytes file.id) j stripe))
