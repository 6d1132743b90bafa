-- What a file's shape means.
use Rattle.std.specs.Prelude.{ℕ, List}
use Rattle.code_points.specs.Profile.{plain_profile}
use Rattle.file_layout.specs.declared.file.FileShape.{FileShape}
use Rattle.column_defs.specs.Objects.{Object}

-- the object that a file's shape and a master key make
abbrev pub shaped_object : List ℕ → FileShape → Object
shaped_object master file = record {
  shape = record { n = file.shape.n; l = file.shape.l; b = file.shape.b };
  profile = plain_profile file.profile;
  master = master;
  id = file.id;
}
