-- Blocks that are wrong, and replacements of their providers.
--
--   IsBad w profile id j stripe == provider j tells of a stripe of an object that it holds a wrong block,
--                                  or none
--   IsReplaced from j ms        == provider j was replaced by the event of number `from` or a later one
--   RoseSince w v j             == the count of failed fetches, asks and removals of provider j rose from
--                                  one state to another
use Rattle.std.specs.Prelude.{◌≡◌, ℕ, true, List, Option, Some}
use Rattle.column_defs.specs.Columns.{is_wrong_block}
use Rattle.device_defs.specs.Faults.{Rose}
use Rattle.machine_defs.specs.States.{State, object_in}
use Rattle.machine_defs.specs.Runs.{Moment, is_replaced_since}
use Rattle.machine_defs.specs.Deeds.{told_block}

-- a provider tells that it holds a wrong block of a stripe of an object, or none
abbrev pub IsBad : State → ℕ → ℕ → ℕ → ℕ → Type 0
IsBad w profile id j stripe =
    (block : Option (List ℕ)) × (told_block w j id stripe ≡ Some block)
    × (is_wrong_block (object_in w profile id) (w.bytes id) j stripe block ≡ true)

-- a provider was replaced by the event of this number or a later one
abbrev pub IsReplaced : ℕ → ℕ → List Moment → Type 0
IsReplaced from j ms = is_replaced_since from j ms ≡ true

-- the count of a provider's failed fetches, asks and removals rose from one state to another
abbrev pub RoseSince : State → State → ℕ → Type 0
RoseSince w v j = Rose (w.providers j).other_faults (v.providers j).other_faults
