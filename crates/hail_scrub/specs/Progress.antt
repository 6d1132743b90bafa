-- What a scrub works with, what is seen of it, and what its parts owe each other.
--
--   item_object master item             == the object of a file
--   bench_rows benches place            == the symbols at hand on a bench
--   size_in cursor, fetched_at n cursor == the size of the blocks in work, and how many of them are fetched
--   phase_of p                          == where it is on its stripes
--   scrub_view p                        == what is seen of it
--   IsItem n master kinds i             == a file has n providers, a stripe, and a bench that serves it
--   IsSpot items spot                   == a stripe of one of the files
--   IsCursor n items off c              == a cursor is at one of the stripes, and a provider
--   CanRun n item                       == a file has a stripe, and there are providers
--   CursorIsAt n items off c todo       == a cursor stands for these actions, and no stripe of it is begun
--   StoresOnlyAt spot c                 == a cursor that stores is still at this stripe
--   IsAmid spot c                       == a cursor fetches or opens this stripe
--   IsAtFirst c                         == a cursor is at the first fetch of a stripe, or at the end
--   HasAdded old off new                == what was found, with a stripe more whose blocks are off by so many
--                                          symbols
--   TakesOpening old spot off new       == the opening of a stripe was taken in
--   IsProgress p                        == what its parts owe each other
use Rattle.std.specs.Prelude.{◌≡◌, ℕ, ◌+◌, ◌++◌, ◌*◌, ◌==◌, ◌<◌, ◌≤◌, ◌^◌, All, false, List, [], length, map, Option, None, Some, slice_get, slice_index, vec_capacity, if◌then◌else◌}
use Rattle.column_defs.specs.Objects.{Object}
use Rattle.record_defs.specs.Records.{most_files}
use Rattle.column_codec.specs.PresentBlocks.{present_blocks}
use Rattle.file_layout.specs.Files.{shaped_object}
use Rattle.machine_defs.specs.Actions.{Action}
use Rattle.stripe_bench.specs.Bench.{bench_kind, file_kind}
use Rattle.stripe_bench.specs.Blocks.{HasEmptied}
use Rattle.column_codec.specs.declared.bench.Bench.{Bench}
use Rattle.hail_scrub.specs.declared.cursor.Item.{Item}
use Rattle.hail_scrub.specs.declared.cursor.Spot.{Spot}
use Rattle.hail_scrub.specs.declared.cursor.Cursor.{Cursor}
use Rattle.hail_scrub.specs.declared.cursor.Cursor.TheVariants as cursor
use Rattle.hail_scrub.specs.declared.progress.Found.{Found}
use Rattle.hail_scrub.specs.declared.progress.Progress.{Progress}
use Rattle.hail_scrub.specs.Views.{Stage, Between, Fetched, Opened, ScrubView, most_steps}
use Rattle.hail_scrub.specs.Todo.{stores_from, past_stripe, todo_at}

-- the object of a file
abbrev pub item_object : List ℕ → Item → Object
item_object master item = shaped_object master item.file

-- the symbols at hand on a bench
abbrev pub rows_of : Option Bench → List ℕ
rows_of None = []
rows_of (Some bench) = bench.rows.items

-- the same, of the bench at a place
abbrev pub bench_rows : List Bench → ℕ → List ℕ
bench_rows benches place = rows_of (slice_get benches place)

-- the size of the blocks in work
abbrev pub size_in : Cursor → ℕ
size_in (cursor.Fetching spot j) = spot.item.file.profile.size
size_in (cursor.Opening spot) = spot.item.file.profile.size
size_in c = 0

-- how many of them are fetched
abbrev pub fetched_at : ℕ → Cursor → ℕ
fetched_at n (cursor.Fetching spot j) = j
fetched_at n (cursor.Opening spot) = n
fetched_at n c = 0

-- where a scrub is on its stripes
abbrev pub phase_at : Progress → Cursor → Stage
phase_at p (cursor.Fetching spot j) =
    Fetched spot.item.file.id spot.stripe
    (present_blocks spot.item.file.profile.size p.blocks.present.items p.blocks.symbols.items)
phase_at p (cursor.Opening spot) =
    Fetched spot.item.file.id spot.stripe
    (present_blocks spot.item.file.profile.size p.blocks.present.items p.blocks.symbols.items)
phase_at p (cursor.Storing spot j) =
    Opened spot.item.file.id spot.stripe (bench_rows p.benches.items spot.item.bench)
phase_at p c = Between

-- what is seen of it
abbrev pub scrub_view : Progress → ScrubView
scrub_view p = record {
  todo = todo_at p.providers p.items.items p.off p.cursor;
  providers = p.providers;
  objects = map (item_object p.master.0) p.items.items;
  at = phase_at p p.cursor;
  stripes = p.found.stripes;
  symbols = p.found.symbols;
  blocks = p.found.blocks;
}

-- a file has n providers, a stripe, and a bench that serves it
pub record IsItem (n : ℕ) (master : List ℕ) (kinds : List Object) (item : Item) : Type 0 where
  pub providers : item.file.shape.n ≡ n
  pub some_providers : 0 < n
  pub some : 0 < item.stripes
  pub few : item.stripes ≤ item.file.length
  pub bench : slice_get kinds item.bench ≡ Some (file_kind master item.file)

-- a stripe of one of the files
pub record IsSpot (items : List Item) (spot : Spot) : Type 0 where
  pub there : slice_get items spot.place ≡ Some spot.item
  pub within : spot.stripe < spot.item.stripes

-- a cursor is at one of the stripes, and a provider
abbrev pub IsCursor : ℕ → List Item → List ℕ → Cursor → Type 0
IsCursor n items off (cursor.Fetching spot j) = IsSpot items spot × (j < n)
IsCursor n items off (cursor.Opening spot) = IsSpot items spot
IsCursor n items off (cursor.Storing spot j) = IsSpot items spot × (j < n) ×
    ((slice_index off j == 0) ≡ false)
IsCursor n items off c = Unit {0}

-- a file has a stripe, and there are providers
pub record CanRun (n : ℕ) (item : Item) : Type 0 where
  pub providers : 0 < n
  pub some : 0 < item.stripes

-- a cursor stands for these actions, and no stripe of it is begun
pub record CursorIsAt (n : ℕ) (items : List Item) (off : List ℕ) (c : Cursor) (todo : List Action) : Type 0 where
  pub todo_is : todo_at n items off c ≡ todo
  pub placed : IsCursor n items off c
  pub fresh : fetched_at n c ≡ 0

-- a cursor that stores is still at this stripe
abbrev pub StoresOnlyAt : Spot → Cursor → Type 0
StoresOnlyAt spot (cursor.Storing other j) = other ≡ spot
StoresOnlyAt spot c = Unit {0}

-- a cursor fetches or opens this stripe
abbrev pub IsAmid : Spot → Cursor → Type 0
IsAmid spot (cursor.Fetching other j) = other ≡ spot
IsAmid spot (cursor.Opening other) = other ≡ spot
IsAmid spot c = ⊥

-- a cursor is at the first fetch of a stripe, or at the end
abbrev pub IsAtFirst : Cursor → Type 0
IsAtFirst (cursor.Fetching spot j) = j ≡ 0
IsAtFirst cursor.Ending = Unit {0}
IsAtFirst c = ⊥

-- what was found, with a stripe more whose blocks are off by so many symbols
pub record HasAdded (old : Found) (off : List ℕ) (new : Found) : Type 0 where
  pub stripes_are : new.stripes ≡ old.stripes + 1
  pub symbols_are : (j : ℕ) → slice_index new.symbols j ≡ slice_index old.symbols j + slice_index off j
  pub blocks_are : (j : ℕ) → slice_index new.blocks j
      ≡ slice_index old.blocks j + (if slice_index off j == 0 then 0 else 1)
  pub long_symbols : length new.symbols ≡ length old.symbols
  pub long_blocks : length new.blocks ≡ length old.blocks

-- the opening of a stripe was taken in, whose blocks are off by so many symbols
pub record TakesOpening (old : Progress) (spot : Spot) (off : List ℕ) (new : Progress) : Type 0 where
  -- it is at the stores that are due, or behind the stripe
  pub at : CursorIsAt old.providers old.items.items off new.cursor
      (stores_from old.providers 0 off spot.item.file.id spot.stripe
      ++ past_stripe old.providers old.items.items spot)
  pub behind : StoresOnlyAt spot new.cursor
  -- the opening is made, with a store on each provider that may have been due; those that are due are left
  pub left : (o t : ℕ) → new.left + (old.providers + 1)
      ≡ old.left + length (stores_from old.providers 0 off o t)
  pub falls : new.left < old.left
  -- the blocks are gone
  pub emptied : HasEmptied old.blocks new.blocks
  -- the stripe is counted
  pub found : HasAdded old.found off new.found
  -- nothing else changed
  pub same : new ≡ record old {
    blocks = new.blocks;
    off = off;
    found = new.found;
    left = new.left;
    cursor = new.cursor;
  }

-- what the parts of a scrub owe each other
pub record IsProgress (p : Progress) : Type 0 where
  pub few : p.providers ≤ 16
  pub few_items : length p.items.items ≤ most_files
  pub items : All (IsItem p.providers p.master.0 (map bench_kind p.benches.items)) p.items.items
  pub placed : IsCursor p.providers p.items.items p.off p.cursor
  pub present : length p.blocks.present.items ≡ fetched_at p.providers p.cursor
  pub symbols : length p.blocks.symbols.items ≡ fetched_at p.providers p.cursor * size_in p.cursor
  pub room_present : p.providers ≤ vec_capacity p.blocks.present
  pub room_symbols : p.providers * 128 ≤ vec_capacity p.blocks.symbols
  pub left : p.left ≡ most_steps p.providers (todo_at p.providers p.items.items p.off p.cursor)
  pub long_symbols : length p.found.symbols ≡ 16
  pub long_blocks : length p.found.blocks ≡ 16
  pub few_stripes : p.found.stripes + p.left ≤ 2 ^ 50
  pub few_symbols : (j : ℕ) → slice_index p.found.symbols j + 128 * p.left ≤ 2 ^ 50
  pub few_blocks : (j : ℕ) → slice_index p.found.blocks j + p.left ≤ 2 ^ 50
