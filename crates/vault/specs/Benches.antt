-- What a job begins with, and the benches of a repair.
use Rattle.std.specs.Prelude.{◌≡◌, ◌⊎◌, ℕ, ◌+◌, ◌*◌, ◌^◌, ◌≤◌, ◌==◌, Bool, true, List, [], ◌∷◌, replicate, Some, slice_get, slice_set, vec_len, vec_capacity}
use Rattle.std.specs.List.{list_any}
use Rattle.code_defs.specs.Profiles.{profile_of}
use Rattle.code_points.specs.Profile.{plain_profile}
use Rattle.column_defs.specs.Objects.{stripes, stripe_symbols}
use Rattle.record_defs.specs.Table.{File}
use Rattle.vault.specs.declared.tasks.AuditTask.{AuditTask}
use Rattle.vault.specs.declared.tasks.GetTask.{GetTask}
use Rattle.vault.specs.declared.tasks.RepairTask.{RepairTask}
use Rattle.vault.specs.declared.tasks.Task.{Task}
use Rattle.vault.specs.declared.tasks.Task.TheVariants as task
use Rattle.column_codec.specs.Bench.{bench_object}
use Rattle.column_codec.specs.declared.bench.Bench.{Bench}
use Rattle.vault.specs.declared.desk.Desk.{Desk}

-- a bench of a desk's master key and shape
pub record IsOfDesk (v : Desk) (bench : Bench) : Type 0 where
  pub master : bench.keys.master ≡ v.master
  pub shape : bench.keys.file.shape ≡ v.shape

-- a bench for a file of this number, length and profile
pub record IsBenchFor (v : Desk) (id size number : ℕ) (bench : Bench) : Type 0 where
  pub of_desk : IsOfDesk v bench
  pub id_is : bench.keys.file.id ≡ id
  pub length_is : bench.keys.file.length ≡ size
  pub profile : plain_profile bench.keys.file.profile ≡ profile_of number

-- a bench makes blocks of this size
abbrev pub is_sized : ℕ → Bench → Bool
is_sized size bench = bench.keys.file.profile.size == size

-- one of these benches is for this profile, by the size of its blocks, which is another one for each profile
abbrev pub is_served : ℕ → List Bench → Bool
is_served profile benches = list_any (is_sized (profile_of profile).size) benches

-- benches behind others, all of a desk
abbrev pub AreOfDesk : Desk → List Bench → Type 0
AreOfDesk v [] = Unit {0}
AreOfDesk v (b ∷ bs) = IsOfDesk v b × AreOfDesk v bs

-- a bench was taken up from the others, and the one before stands in its place
pub record IsSwapped (old : Bench) (others : List Bench) (new : Bench) (left : List Bench) : Type 0 where
  pub place : ℕ
  pub there : slice_get others place ≡ Some new
  pub left_is : left ≡ slice_set others place old

-- a repair took up a bench, whose blocks have this size where there is such a one
pub record HasTaken (size : ℕ) (old new : RepairTask) : Type 0 where
  pub swapped : ((new.bench ≡ old.bench) × (new.others.items ≡ old.others.items))
      ⊎ IsSwapped old.bench old.others.items new.bench new.others.items
  pub served : list_any (is_sized size) (old.bench ∷ old.others.items) ≡ true
      → new.bench.keys.file.profile.size ≡ size

-- a repair took up the bench of a profile, and turned its blocks to their size
pub record TakesUp (profile : ℕ) (old new : RepairTask) : Type 0 where
  pub present : new.blocks.present ≡ old.blocks.present
  pub symbols : new.blocks.symbols ≡ old.blocks.symbols
  pub size : new.blocks.size ≡ new.bench.keys.file.profile.size
  pub taken : HasTaken (profile_of profile).size old new

-- so does a job that is one; any other stays as it was
abbrev pub Turns : ℕ → Task → Task → Type 0
Turns profile (task.Repair t) (task.Repair u) = TakesUp profile t u
Turns profile old new = new ≡ old

-- the bench of a profile is taken up before the first fetch of a stripe, which is from provider 0
pub record TurnsTo (provider profile : ℕ) (old new : Task) : Type 0 where
  pub first : provider ≡ 0 → Turns profile old new
  pub other : (provider ≡ 0 → ⊥) → new ≡ old

-- one of these benches is for each of these files
abbrev pub AreServed : List File → List Bench → Type 0
AreServed [] benches = Unit {0}
AreServed (f ∷ fs) benches = (is_served f.profile benches ≡ true) × AreServed fs benches

-- a repair that has fetched nothing yet, with the setup's bench and those of the other profiles in effect
pub record IsNewRepair (v : Desk) (t : RepairTask) : Type 0 where
  pub own : (id : ℕ) × (size : ℕ) × IsBenchFor v id size v.setup.profile t.bench
  pub others : AreOfDesk v t.others.items
  pub served : AreServed v.core.table.files (t.bench ∷ t.others.items)
  pub size : t.blocks.size ≡ t.bench.keys.file.profile.size
  pub present : t.blocks.present.items ≡ []
  pub symbols : t.blocks.symbols.items ≡ []
  pub room_present : v.setup.n ≤ vec_capacity t.blocks.present
  pub room_symbols : v.setup.n * 128 ≤ vec_capacity t.blocks.symbols

-- how many stripes the file of a bench has
abbrev pub stripes_on : Bench → ℕ
stripes_on bench = stripes (bench_object bench) bench.keys.file.length

-- a get that has fetched nothing yet, with room for all
pub record IsNewGet (job : ℕ) (bench : Bench) (t : GetTask) : Type 0 where
  pub job_is : t.fetched.job ≡ job
  pub object_is : t.fetched.object ≡ bench.keys.file.id
  pub n_is : t.fetched.n ≡ bench.keys.file.shape.n
  pub bench_is : t.bench ≡ bench
  pub length_is : t.length ≡ bench.keys.file.length
  pub size_is : t.fetched.blocks.size ≡ bench.keys.file.profile.size
  pub present : t.fetched.blocks.present.items ≡ []
  pub symbols : t.fetched.blocks.symbols.items ≡ []
  pub bytes : t.bytes.items ≡ []
  pub few : stripes_on bench * bench.keys.file.shape.n ≤ 2 ^ 32
  pub room_present : vec_len t.fetched.blocks.present
      + stripes_on bench * bench.keys.file.shape.n ≤ vec_capacity t.fetched.blocks.present
  pub room_symbols : vec_len t.fetched.blocks.symbols
      + (stripes_on bench * bench.keys.file.shape.n) * t.fetched.blocks.size ≤ vec_capacity
      t.fetched.blocks.symbols
  pub room_bytes : vec_len t.bytes + stripes_on bench * (16 * stripe_symbols (bench_object bench))
      ≤ vec_capacity t.bytes

-- an audit of so many providers that has asked nothing yet, with room for so many asks
pub record IsNewAudit (job n asks : ℕ) (t : AuditTask) : Type 0 where
  pub job_is : t.heard.job ≡ job
  pub no_asks : t.heard.asks.items ≡ []
  pub no_symbols : t.heard.symbols.items ≡ []
  pub undecided : t.undecided ≡ 0
  pub n_is : t.counts.n ≡ n
  pub by_is : t.counts.by ≡ replicate 16 0
  pub room_asks : vec_len t.heard.asks + asks ≤ vec_capacity t.heard.asks
  pub room_symbols : vec_len t.heard.symbols + asks ≤ vec_capacity t.heard.symbols
