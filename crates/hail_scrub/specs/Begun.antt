-- The files that a scrub has taken in at its begin.
--
--   file_providers files                     == how many providers they have; 0 where there is none
--   file_actions n master f                  == all fetches and openings of a file's stripes
--   IsFileAmong files item                   == the file is one of these
--   AreItems n master kinds before all items == the files that were taken in, of these before: those with a
--                                               stripe
use Rattle.std.specs.Prelude.{◌≡◌, ℕ, All, List, [], ◌∷◌, Some, slice_get}
use Rattle.std.specs.List.{flat_map}
use Rattle.code_defs.specs.Points.{upto}
use Rattle.column_defs.specs.Objects.{Object, stripes}
use Rattle.file_layout.specs.Files.{shaped_object}
use Rattle.file_layout.specs.declared.file.FileShape.{FileShape}
use Rattle.machine_defs.specs.Actions.{Action}
use Rattle.hail_scrub.specs.declared.cursor.Item.{Item}
use Rattle.hail_scrub.specs.Todo.{opening_of, item_actions}
use Rattle.hail_scrub.specs.Progress.{IsItem}

-- how many providers files have that all have the same number
abbrev pub file_providers : List FileShape → ℕ
file_providers [] = 0
file_providers (f ∷ fs) = f.shape.n

-- all fetches and openings of a file's stripes
abbrev pub file_actions : ℕ → List ℕ → FileShape → List Action
file_actions n master f = flat_map (opening_of n f.id) (upto (stripes (shaped_object master f) f.length))

-- the file is one of these
abbrev pub IsFileAmong : List FileShape → Item → Type 0
IsFileAmong files item = (k : ℕ) × (slice_get files k ≡ Some item.file)

-- the files that were taken in, of these before
pub record AreItems (n : ℕ) (master : List ℕ) (kinds : List Object) (before all : List FileShape)
    (items : List Item) : Type 0 where
  pub whole : All (IsItem n master kinds) items
  pub among : All (IsFileAmong all) items
  pub actions : flat_map (item_actions n) items ≡ flat_map (file_actions n master) before
