-- Which files a bench serves, and what it opens.
--
--   bench_kind bench        == the object of a bench but for its number: which files it serves
--   file_kind master file   == the same of a file's object
--   Serves master file bench == the bench is that of an object under the key, with the shape and the profile of the file
--   IsBench s profile bench == the bench is that of an object of the setup at the profile
--   HasAllBlocks bench b    == there are a block for each provider of an object, of its size
use Rattle.std.specs.Prelude.{◌≡◌, ℕ, ◌*◌, ◌≤◌, List, length}
use Rattle.column_defs.specs.Objects.{Object}
use Rattle.file_layout.specs.Files.{shaped_object}
use Rattle.file_layout.specs.declared.file.FileShape.{FileShape}
use Rattle.record_defs.specs.Records.{Setup}
use Rattle.machine_defs.specs.Setups.{profiled, object_of}
use Rattle.column_codec.specs.declared.bench.Bench.{Bench}
use Rattle.column_codec.specs.Bench.{bench_object}
use Rattle.stripe_bench.specs.declared.blocks.Blocks.{Blocks}

-- the object of a bench but for its number
abbrev pub bench_kind : Bench → Object
bench_kind bench = record (bench_object bench) { id = 0 }

-- the object of a file but for its number
abbrev pub file_kind : List ℕ → FileShape → Object
file_kind master file = record (shaped_object master file) { id = 0 }

-- a bench is that of an object under the key, with a file's shape and profile
pub record Serves (master : List ℕ) (file : FileShape) (bench : Bench) : Type 0 where
  pub master_is : bench.keys.master.0 ≡ master
  pub shape : bench.keys.file.shape ≡ file.shape
  pub profile : bench.keys.file.profile ≡ file.profile

-- a bench is that of an object of the setup, with the profile of a file
abbrev pub IsBench : Setup → ℕ → Bench → Type 0
IsBench s profile bench = bench_object bench ≡ object_of (profiled s profile) bench.keys.file.id

-- there is a block for each provider of an object, of its size
pub record HasAllBlocks (bench : Bench) (b : Blocks) : Type 0 where
  pub size : b.size ≡ bench.keys.file.profile.size
  pub present : bench.keys.file.shape.n ≤ length b.present.items
  pub symbols : bench.keys.file.shape.n * b.size ≤ length b.symbols.items
