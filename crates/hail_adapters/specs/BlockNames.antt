-- The names of the files of blocks, and of the folders that they are in.
--
--   block_name object stripe  == the name of a block's file: both numbers in decimal, with a dash between
--   new_block                 == the name of a block's file until it is on the medium, behind its folder
--   provider_folder k         == the path of a provider's folder behind its home
--   object_file k object      == the path of an object's file behind the home, where the folder is a stack
use Rattle.std.specs.Prelude.{ℕ, List, codes, ◌∷◌, ◌++◌}
use Rattle.std.specs.Fmt.{decimal}

-- both numbers in decimal, with a dash between
abbrev pub block_name : ℕ → ℕ → List ℕ
block_name object stripe = decimal object ++ 45 ∷ decimal stripe

-- a slash, and the name of a block's file until it is on the medium
abbrev pub new_block : List ℕ
new_block = codes "/new"

-- a slash, and the name of a provider's folder: its number behind a dash
abbrev pub provider_folder : ℕ → List ℕ
provider_folder k = codes "/provider-" ++ decimal k

-- the provider's folder, a slash and the object in decimal
abbrev pub object_file : ℕ → ℕ → List ℕ
object_file k object = codes "/provider-" ++ decimal k ++ 47 ∷ decimal object
