-- What an opening finds.
--
--   HasBlocks bench b            == there is one block of each provider of a bench's object, of its size
--   IsSurveyed o t seen rows off == seen blocks of a stripe open to these symbols, and are off by so many
use Rattle.std.specs.Prelude.{◌≡◌, ℕ, ◌*◌, ◌<◌, ◌≤◌, List, length, slice_index}
use Rattle.column_defs.specs.Objects.{Object}
use Rattle.column_defs.specs.Opened.{SeenBlock, GivesSymbols}
use Rattle.column_codec.specs.declared.bench.Bench.{Bench}
use Rattle.stripe_bench.specs.declared.blocks.Blocks.{Blocks}
use Rattle.hail_scrub.specs.Steps.{off_in}

-- there is one block of each provider of a bench's object, of its size
pub record HasBlocks (bench : Bench) (b : Blocks) : Type 0 where
  pub size : b.size ≡ bench.keys.file.profile.size
  pub present : length b.present.items ≡ bench.keys.file.shape.n
  pub symbols : length b.symbols.items ≡ bench.keys.file.shape.n * bench.keys.file.profile.size

-- seen blocks of a stripe open to these symbols, and are off by so many
pub record IsSurveyed (o : Object) (stripe : ℕ) (seen : List SeenBlock) (rows off : List ℕ) : Type 0 where
  pub gives : GivesSymbols o stripe seen rows
  pub off_is : (j : ℕ) → j < o.shape.n → slice_index off j ≡ off_in o stripe seen rows j
  pub few : (j : ℕ) → slice_index off j ≤ 128
  pub long : length off ≡ 16
