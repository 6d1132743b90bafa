-- A small object, and blocks of it, for which the premises of the laws hold.
--
--   example master       == object 1 under a master key: four providers, one of them primary, one that may be
--                           wrong; 6 symbols of which 2 are kept
--   three_seen o bytes   == the blocks of stripe 0 of a file, as three providers hold them; the fourth is
--                           absent
--   three_opened o bytes == these without their masks
use Rattle.std.specs.Prelude.{ℕ, List, [], ◌∷◌, None, Some}
use Rattle.code_defs.specs.Profiles.{profile_of}
use Rattle.column_defs.specs.Objects.{Object}
use Rattle.column_defs.specs.Columns.{columns}
use Rattle.column_defs.specs.Opened.{SeenBlock, bare}

-- four providers, one primary, one that may be wrong
abbrev pub example : List ℕ → Object
example master =
    record { shape = record { n = 4; l = 1; b = 1 }; profile = profile_of 0; master = master; id = 1 }

-- three blocks, and one that is absent
abbrev pub three_seen : Object → List ℕ → List SeenBlock
three_seen o bytes =
    Some (columns o bytes 0 0) ∷ Some (columns o bytes 1 0) ∷ Some (columns o bytes 2 0) ∷ None ∷ []

-- the three without their masks
abbrev pub three_opened : Object → List ℕ → List SeenBlock
three_opened o bytes =
    Some (bare o 0 0 (columns o bytes 0 0)) ∷ Some (bare o 1 0 (columns o bytes 1 0))
    ∷ Some (bare o 2 0 (columns o bytes 2 0)) ∷ None ∷ []
