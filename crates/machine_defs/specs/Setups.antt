-- What a setup says of the codes of objects.
--
--   no_setup                == the setup of no provider, in place of one that is not there
--   setup_or_none told      == the setup, and no_setup where there is none
--   profiled s profile      == the setup with the profile of a file
--   object_of s id          == the object of a number: its codes, its master key, its number
--   stripes_of s size       == how many stripes a file of so many bytes has
--   pinned_stripes s f      == how many a file has that a job works on
--   put_stripes s job bytes == how many a file of these bytes has that a put stores
use Rattle.std.specs.Prelude.{ℕ, List, [], length, Option, None, Some}
use Rattle.code_defs.specs.Profiles.{profile_of}
use Rattle.column_defs.specs.Objects.{Object, stripes}
use Rattle.record_defs.specs.Records.{Setup}
use Rattle.machine_defs.specs.Jobs.{Pinned, Job}

-- no setup, with no provider at all
abbrev pub no_setup : Setup
no_setup = record { n = 0; l = 0; b = 0; profile = 0; rounds = 0; picks = 0; tolerance = 0; master = [] }

-- a setup, if there is one
abbrev pub setup_or_none : Option Setup → Setup
setup_or_none None = no_setup
setup_or_none (Some s) = s

-- a setup with the profile of a file
abbrev pub profiled : Setup → ℕ → Setup
profiled s profile = record s { profile = profile }

-- the object of a number
abbrev pub object_of : Setup → ℕ → Object
object_of s id =
    record {
      shape = record { n = s.n; l = s.l; b = s.b };
      profile = profile_of s.profile;
      master = s.master;
      id = id;
    }

-- how many stripes a file of so many bytes has
abbrev pub stripes_of : Setup → ℕ → ℕ
stripes_of s size = stripes (object_of s 0) size

-- how many stripes a file has that a job works on
abbrev pub pinned_stripes : Setup → Pinned → ℕ
pinned_stripes s f = stripes_of (profiled s f.profile) (length f.bytes)

-- how many stripes a file of these bytes has that a put stores
abbrev pub put_stripes : Setup → Job → List ℕ → ℕ
put_stripes s job bytes = stripes_of (profiled s job.profile) (length bytes)
