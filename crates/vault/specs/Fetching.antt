-- What a fetch does to what a job works with.
--
--   GrowsFetches old new found block   == one fetch more was made, which gave the block where it was found
--   TakesFetch old new found block     == the same of what a job works with
--   HasRoomForFetch f, HasRoomFor task == a job can make one more fetch without memory
use Rattle.std.specs.Prelude.{◌≡◌, ℕ, ◌+◌, ◌≤◌, ◌^◌, Bool, List, length}
use Rattle.vault.specs.declared.heard.Fetches.{Fetches}
use Rattle.vault.specs.declared.tasks.Task.{Task}
use Rattle.vault.specs.declared.tasks.Task.TheVariants as task
use Rattle.stripe_bench.specs.Blocks.{Grows, HasRoom}

-- one fetch more was made
pub record GrowsFetches (old new : Fetches) (found : Bool) (block : List ℕ) : Type 0 where
  pub job : new.job ≡ old.job
  pub object : new.object ≡ old.object
  pub n : new.n ≡ old.n
  pub blocks : Grows old.blocks new.blocks found block

-- a job made one fetch more
abbrev pub TakesFetch : Task → Task → Bool → List ℕ → Type 0
TakesFetch (task.Get t) (task.Get u) found block =
    (u ≡ record t { fetched = u.fetched }) × GrowsFetches t.fetched u.fetched found block
TakesFetch (task.Repair t) (task.Repair u) found block =
    (u ≡ record t { blocks = u.blocks }) × Grows t.blocks u.blocks found block
TakesFetch old new found block = ⊥

-- there is room for one more fetch
pub record HasRoomForFetch (f : Fetches) : Type 0 where
  pub few : length f.blocks.present.items + 1 ≤ 2 ^ 32
  pub blocks : HasRoom f.blocks

-- a job can make one more fetch without memory
abbrev pub HasRoomFor : Task → Type 0
HasRoomFor (task.Get t) = HasRoomForFetch t.fetched
HasRoomFor (task.Repair t) = HasRoom t.blocks
HasRoomFor t = ⊥

-- how many symbols the blocks have that a job fetches
abbrev pub fetch_size : Task → ℕ
fetch_size (task.Get t) = t.fetched.blocks.size
fetch_size (task.Repair t) = t.blocks.size
fetch_size t = 0
