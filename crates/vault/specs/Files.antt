-- The files of a scrub of all files, by the desk of a vault.
--
--   IsShapeFor v p f == a file's shape is that of a pinned file, with the desk's codes
--   AreShaped v fs   == these files have all the desk's shape
use Rattle.std.specs.Prelude.{◌≡◌, ℕ, List, min, Some, slice_get}
use Rattle.code_defs.specs.Profiles.{profile_of}
use Rattle.record_defs.specs.Records.{largest_file}
use Rattle.code_points.specs.Profile.{plain_profile}
use Rattle.file_layout.specs.declared.file.FileShape.{FileShape}
use Rattle.vault_core.specs.declared.pinned.Pinned.{Pinned}
use Rattle.vault.specs.declared.desk.Desk.{Desk}

-- a file's shape is that of a pinned file, with the desk's codes; no file is longer than the largest one
pub record IsShapeFor (v : Desk) (p : Pinned) (f : FileShape) : Type 0 where
  pub id_is : f.id ≡ p.id
  pub length_is : f.length ≡ min p.length largest_file
  pub shape_is : f.shape ≡ v.shape
  pub profile_is : plain_profile f.profile ≡ profile_of p.profile

-- these files have all the desk's shape
abbrev pub AreShaped : Desk → List FileShape → Type 0
AreShaped v files = (k : ℕ) (f : FileShape) → slice_get files k ≡ Some f → f.shape ≡ v.shape
