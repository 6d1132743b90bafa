-- What a store does, and what it stores.
--
--   stored_block task object j stripe == the block that a job stores: of a put's bytes, or of the symbols at
--                                        hand of a stream or a repair
--   KeepsTask old new object          == what the job works with is as before, but for its keys and what it
--                                        makes with them
--   IsStorer task j                   == a job that stores, and provider j is one of those of its object
use Rattle.std.specs.Prelude.{◌≡◌, ℕ, ◌<◌, List, []}
use Rattle.column_defs.specs.Columns.{column_of_symbols}
use Rattle.column_defs.specs.Objects.{symbols_in}
use Rattle.vault.specs.declared.tasks.Task.{Task}
use Rattle.vault.specs.declared.tasks.Task.TheVariants as task
use Rattle.column_codec.specs.Bench.{bench_object, turned}

-- the block that a job stores
abbrev pub stored_block : Task → ℕ → ℕ → ℕ → List ℕ
stored_block (task.Put t) object j stripe =
    column_of_symbols (turned t.bench object) (symbols_in (turned t.bench object) t.bytes stripe) j stripe
stored_block (task.Stream t) object j stripe =
    column_of_symbols (turned t.bench object) t.bench.rows.items j stripe
stored_block (task.Repair t) object j stripe =
    column_of_symbols (turned t.bench object) t.bench.rows.items j stripe
stored_block t object j stripe = []

-- what a job works with is as before, but for its keys and what it makes with them
abbrev pub KeepsTask : Task → Task → ℕ → Type 0
KeepsTask (task.Put t) (task.Put u) object =
    (u.bytes ≡ t.bytes) × (bench_object u.bench ≡ turned t.bench object)
KeepsTask (task.Stream t) (task.Stream u) object =
    (u.at_hand ≡ t.at_hand) × (u.bench.rows ≡ t.bench.rows) × (bench_object u.bench ≡ turned t.bench object)
KeepsTask (task.Repair t) (task.Repair u) object =
    (u.blocks ≡ t.blocks) × (u.bench.rows ≡ t.bench.rows) × (bench_object u.bench ≡ turned t.bench object)
    × (u.others ≡ t.others)
KeepsTask t u object = ⊥

-- a job that stores on this provider
abbrev pub IsStorer : Task → ℕ → Type 0
IsStorer (task.Put t) j = j < t.bench.keys.file.shape.n
IsStorer (task.Stream t) j = j < t.bench.keys.file.shape.n
IsStorer (task.Repair t) j = j < t.bench.keys.file.shape.n
IsStorer t j = ⊥
