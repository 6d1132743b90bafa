-- What the work on a stripe does to what a job works with.
--
--   work_blocks task                     == the blocks that a job opens
--   OpensRows, LosesWork                 == they open to the rows that are at hand then; a row of them is not
--                                           accepted
--   TakesWork old new object             == a job has opened a stripe: a get has its bytes, and a repair has
--                                           room for the next blocks
--   WorksAs old new object stripe result == what the work on a stripe came to
--   CanWork task                         == a job has the blocks of a stripe, and room for its bytes
use Rattle.std.specs.Prelude.{◌≡◌, ℕ, ◌+◌, ◌*◌, ◌≤◌, List, [], ◌++◌, Result, Ok, Err, vec_len, vec_capacity}
use Rattle.column_defs.specs.Objects.{bytes_of_symbols, stripe_symbols}
use Rattle.column_defs.specs.Opened.{SeenBlock, GivesSymbols, LosesRow}
use Rattle.column_codec.specs.declared.opening.RowLost.{RowLost}
use Rattle.column_codec.specs.Bench.{bench_object, turned}
use Rattle.stripe_bench.specs.Bench.{HasAllBlocks}
use Rattle.stripe_bench.specs.Blocks.{last_blocks, HasEmptied}
use Rattle.vault.specs.declared.tasks.Task.{Task}
use Rattle.vault.specs.declared.tasks.Task.TheVariants as task

-- the blocks of a stripe that a job opens
abbrev pub work_blocks : Task → List SeenBlock
work_blocks (task.Get t) = last_blocks t.bench.keys.file.shape.n t.fetched.blocks
work_blocks (task.Repair t) = last_blocks t.bench.keys.file.shape.n t.blocks
work_blocks t = []

-- the blocks at hand open to the rows that are at hand then
abbrev pub OpensRows : Task → Task → ℕ → ℕ → Type 0
OpensRows (task.Get t) (task.Get u) object stripe =
    GivesSymbols (turned t.bench object) stripe (work_blocks (task.Get t)) u.bench.rows.items
OpensRows (task.Repair t) (task.Repair u) object stripe =
    GivesSymbols (turned t.bench object) stripe (work_blocks (task.Repair t)) u.bench.rows.items
OpensRows t u object stripe = ⊥

-- a row of the blocks at hand is not accepted
abbrev pub LosesWork : Task → ℕ → ℕ → ℕ → Type 0
LosesWork (task.Get t) object stripe row =
    LosesRow (turned t.bench object) stripe (work_blocks (task.Get t)) row
LosesWork (task.Repair t) object stripe row =
    LosesRow (turned t.bench object) stripe (work_blocks (task.Repair t)) row
LosesWork t object stripe row = ⊥

-- a job has opened a stripe
abbrev pub TakesWork : Task → Task → ℕ → Type 0
TakesWork (task.Get t) (task.Get u) object =
    (u.fetched ≡ t.fetched) × (u.length ≡ t.length) × (bench_object u.bench ≡ turned t.bench object)
    × (u.bytes.items ≡ t.bytes.items ++ bytes_of_symbols u.bench.rows.items)
    × (vec_capacity t.bytes ≤ vec_capacity u.bytes)
TakesWork (task.Repair t) (task.Repair u) object =
    HasEmptied t.blocks u.blocks × (bench_object u.bench ≡ turned t.bench object) × (u.others ≡ t.others)
TakesWork t u object = ⊥

-- what a job heard is as before
abbrev pub KeepsHeard : Task → Task → Type 0
KeepsHeard (task.Get t) (task.Get u) = u.fetched ≡ t.fetched
KeepsHeard (task.Repair t) (task.Repair u) = Unit {0}
KeepsHeard t u = ⊥

-- the work on a stripe came to this
abbrev pub WorksAs : Task → Task → ℕ → ℕ → Result Unit RowLost → Type 0
WorksAs old new object stripe (Ok done) = OpensRows old new object stripe × TakesWork old new object
WorksAs old new object stripe (Err lost) = LosesWork old object stripe lost.row × KeepsHeard old new

-- a job has the blocks of a stripe, and room for its bytes
abbrev pub CanWork : Task → Type 0
CanWork (task.Get t) =
    HasAllBlocks t.bench t.fetched.blocks
    × (vec_len t.bytes + 16 * stripe_symbols (bench_object t.bench) ≤ vec_capacity t.bytes)
CanWork (task.Repair t) = HasAllBlocks t.bench t.blocks
CanWork t = ⊥
