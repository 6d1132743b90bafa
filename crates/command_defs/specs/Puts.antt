-- What a put leaves whose job was the only one.
--
--   put_done records size own           == its last record: in the journal's second version it has the profile
--   put_records records name size own   == the records that it appends, the oldest first, of the next number
--   PutIsCut x own name bytes           == a put that a fault of the disk cut off, at its first record or at
--                                          its last one
--   MayHaveEnd records after doubt name size own
--                                       == its last record is in effect, or in doubt
--   PutLeaves x own name bytes answer   == what it leaves where it ended with this answer
--
-- own is the profile that the put names; None where it has the setup's.
use Rattle.std.specs.Prelude.{◌≡◌, ◌⊎◌, ℕ, ◌<◌, List, [], ◌∷◌, length, Option, None, Some}
use Rattle.column_defs.specs.Objects.{Object}
use Rattle.device_defs.specs.Faults.{Rose}
use Rattle.record_defs.specs.Records.{Record, PutStart}
use Rattle.record_defs.specs.Table.{version_of, next_id, file_of}
use Rattle.machine_defs.specs.Setups.{profiled, object_of}
use Rattle.machine_defs.specs.Begins.{chosen}
use Rattle.machine_defs.specs.Appends.{done_record}
use Rattle.machine_defs.specs.Answers.{Answer, Put, ProviderFault, DiskFault, Memory}
use Rattle.command_defs.specs.Opens.{setup_in_effect}
use Rattle.command_defs.specs.Ran.{Ran, setup_at_begin, EachHeldGoes, SameHeld, IsWhole, IsCut}
use Rattle.command_defs.specs.Blocks.{StoredOn, PartlyStored}

-- the last record of a put
abbrev pub put_done : List Record → ℕ → Option ℕ → Record
put_done records size own =
    done_record (version_of records) (next_id records) size (chosen (setup_in_effect records) own)

-- the records that a put appends, the oldest first
abbrev pub put_records : List Record → List ℕ → ℕ → Option ℕ → List Record
put_records records name size own = PutStart (next_id records) name ∷ put_done records size own ∷ []

-- the last record of a put is in effect, or in doubt
abbrev pub MayHaveEnd : List Record → List Record → Option Record → List ℕ → ℕ → Option ℕ → Type 0
MayHaveEnd records after doubt name size own =
    (after ≡ put_done records size own ∷ PutStart (next_id records) name ∷ records)
    ⊎ (doubt ≡ Some (put_done records size own))

-- the object of the put
abbrev pub object_put : Ran → Option ℕ → Object
object_put x own = object_of (profiled (setup_at_begin x) (chosen (setup_at_begin x) own)) (next_id x.records)

-- the file is stored on each provider, and one that the name had before is taken away
abbrev pub StoresFile : Ran → Option ℕ → List ℕ → List ℕ → Type 0
StoresFile x own name bytes =
    EachHeldGoes x (λ j. StoredOn (object_put x own) bytes (file_of x.records name)
    (Rose (x.old j).other_faults (x.new j).other_faults) j)

-- the file is stored on each provider, and none is taken away
abbrev pub StoresAll : Ran → Option ℕ → List ℕ → Type 0
StoresAll x own bytes = EachHeldGoes x (λ j. StoredOn (object_put x own) bytes None ⊥ j)

-- a put that a fault of the disk cut off: at its first record it has stored nothing, at its last one it has
-- stored all, and taken nothing away. The record in doubt is the very one that was being written
pub data PutIsCut (x : Ran) (own : Option ℕ) (name bytes : List ℕ) : Type 0 where
  at_start : x.after ≡ x.records → (x.doubt ≡ None) ⊎ (x.doubt ≡ Some (PutStart (next_id x.records) name))
      → SameHeld x → PutIsCut x own name bytes
  at_done : x.after ≡ PutStart (next_id x.records) name ∷ x.records →
      (x.doubt ≡ None) ⊎ (x.doubt ≡ Some (put_done x.records (length bytes) own)) → StoresAll x own bytes
      → PutIsCut x own name bytes

-- some blocks of the file may be stored, under a number that is not used again; all else is as before
abbrev pub StoresPart : Ran → Option ℕ → List ℕ → Type 0
StoresPart x own bytes = EachHeldGoes x (PartlyStored (object_put x own) bytes)

-- what a put leaves
abbrev pub PutLeaves : Ran → Option ℕ → List ℕ → List ℕ → Answer → Type 0
PutLeaves x own name bytes Put =
    IsWhole x (put_records x.records name (length bytes) own) × StoresFile x own name bytes
PutLeaves x own name bytes (ProviderFault j) =
    (j < (setup_at_begin x).n) × Rose (x.old j).store_faults (x.new j).store_faults
    × IsWhole x (PutStart (next_id x.records) name ∷ []) × StoresPart x own bytes
PutLeaves x own name bytes DiskFault = Rose x.disk_before x.disk_after × PutIsCut x own name bytes
PutLeaves x own name bytes Memory =
    IsCut x (put_records x.records name (length bytes) own) × StoresPart x own bytes
PutLeaves x own name bytes answer = ⊥
