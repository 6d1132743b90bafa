-- The stores of which a forgery is shown: what their journals say. Records have the newest first.
--
--   setup_numbers stored == how the store was set up, under the master key 0 to 31
--   stored_bytes stored  == the bytes of its one file, whose name is `a` and whose number is 1
--   records_of stored    == its records: the setup, and the put of the file
--   name_of_file         == the name `a`
use Rattle.std.specs.Prelude.{ℕ, List, [], ◌∷◌, length, replicate}
use Rattle.code_defs.specs.Points.{upto}
use Rattle.record_defs.specs.Records.{Record, Setup, SetUp, PutStart, PutDone}
use Rattle.forged_stores.specs.declared.stored.Stored.{Stored}
use Rattle.forged_stores.specs.declared.stored.Stored.TheVariants as stored

-- the numbers of `init`
abbrev pub setup_numbers : Stored → Setup
setup_numbers stored.FourZeros =
    record { n = 4; l = 1; b = 1; profile = 0; rounds = 1; picks = 1; tolerance = 0; master = upto 32 }
setup_numbers stored.SixLetters =
    record { n = 6; l = 3; b = 1; profile = 1; rounds = 4; picks = 8; tolerance = 0; master = upto 32 }

-- the bytes of the file: 32 zero bytes, or 100 letters t
abbrev pub stored_bytes : Stored → List ℕ
stored_bytes stored.FourZeros = replicate 32 0
stored_bytes stored.SixLetters = replicate 100 116

-- the name `a`
abbrev pub name_of_file : List ℕ
name_of_file = 97 ∷ []

-- the records of a set-up and a put
abbrev pub records_of : Stored → List Record
records_of s = PutDone 1 (length (stored_bytes s)) ∷ PutStart 1 name_of_file ∷ SetUp (setup_numbers s) ∷ []
