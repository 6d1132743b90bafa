-- What commands leave, however they end.
--
--   KeepsImages old new                        == each image of the disk after a command is one that it had
--                                                 before
--   AreAppended records kind profile own       == these are the records that a job of this kind appends over
--                                                 these records, the oldest first; a put also names a profile
--   IsAfter records kind profile old new image == an image stands for these records, with the first few of
--                                                 those of such a job; of a put whose last one stands there,
--                                                 the bytes are the whole source
--   LeavesImages command old new               == the images are images as before, or a job was run over the
--                                                 records that were read, and each image stands for these
--                                                 with some that it wrote; or these were packed, and each
--                                                 image stands for them or for the packed ones
--   InitImages numbers old new                 == a store was set up with these numbers, or each image is one
--                                                 that a failed init may leave
--   SameFetches old new                        == no provider was fetched from
--   stores_blocks command, opens_rows command  == a put, a repair and a scrub; a get, a repair, a scrub and a
--                                                 row
--   FailsToPut name profile old new end, FailsToRepair, FailsToScrub
--                                              == what a put, a repair and a scrub leave of which a store
--                                                 failed
--   LosesFile name old new end, LosesRepair, LosesScrub
--                                              == what a get, a repair and a scrub leave that found a row
--                                                 lost
use Rattle.std.specs.Prelude.{◌≡◌, ◌⊎◌, ℕ, ◌<◌, ◌≤◌, Bool, true, false, List, [], ◌∷◌, ◌++◌, length, reverse, take, Option, Some, IfSome}
use Rattle.column_defs.specs.Verdicts.{is_flagged}
use Rattle.device_defs.specs.Faults.{Rose}
use Rattle.device_defs.specs.Images.{IsImage, EachImage}
use Rattle.device_defs.specs.Told.{Goes}
use Rattle.record_defs.specs.Records.{Record, Drop, RepairDone, Version, largest_file}
use Rattle.record_defs.specs.Journal.{StandsFor}
use Rattle.record_defs.specs.Table.{File, Due, file_of, due_of}
use Rattle.record_defs.specs.Packed.{packed}
use Rattle.machine_defs.specs.Events.{AreBytes}
use Rattle.machine_defs.specs.Jobs.{Kind, PutJob, GetJob, DropJob, AuditJob, RepairJob, UpgradeJob}
use Rattle.command_defs.specs.Forms.{Command, Numbers, RowOf, PutUnder, PutAt, GetOf, RepairAll, ScrubAll, PackJournal}
use Rattle.command_defs.specs.Seen.{Seen, Ending, ReadsFront, provider_at}
use Rattle.opening_defs.specs.Journals.{IsSetUpOn, MayBeLeft}
use Rattle.command_defs.specs.Opens.{IsOpened, setup_in_effect}
use Rattle.command_defs.specs.Inits.{setup_with}
use Rattle.command_defs.specs.Puts.{put_records, StoresPart}
use Rattle.command_defs.specs.GivenUp.{after_begin}
use Rattle.command_defs.specs.Gets.{LosesStripe}
use Rattle.command_defs.specs.Audits.{audit_records}
use Rattle.command_defs.specs.Repairs.{flags, LosesAtPlace, RewritesSome}
use Rattle.command_defs.specs.Scrubs.{everyone}
use Rattle.command_laws.specs.Ends.{profile_named, RunsKind, ReadsWhole, DiskHas, ran_to}

-- each image of the disk is one that it had before
abbrev pub KeepsImages : Seen → Seen → Type 0
KeepsImages old new = IfSome old.disk (λ cells. EachImage new.disk (IsImage cells))

-- the records that a job appends, the oldest first; a get has none
abbrev pub AreAppended : List Record → Kind → Option ℕ → List Record → Type 0
AreAppended records (PutJob name bytes) profile own = own ≡ put_records records name (length bytes) profile
AreAppended records (GetJob name) profile own = own ≡ []
AreAppended records (DropJob name) profile own = own ≡ Drop name ∷ []
AreAppended records AuditJob profile own =
    (undecided : ℕ) × (counts : List ℕ) × (own ≡ audit_records records undecided counts)
AreAppended records RepairJob profile own =
    (due : Due) × (due_of records ≡ Some due) × (own ≡ RepairDone due.number ∷ [])
AreAppended records UpgradeJob profile own = own ≡ Version ∷ []

-- an image stands for records, with the first few of those of a job; a put whose last one stands there has
-- read its whole source
pub record IsAfter (records : List Record) (kind : Kind) (profile : Option ℕ) (old new : Seen)
    (image : List ℕ) : Type 0 where
  pub own : List Record
  pub are_own : AreAppended records kind profile own
  pub count : ℕ
  pub whole : 1 < count → ReadsWhole kind old new
  pub stands : StandsFor image (reverse (take count own) ++ records)

-- the images are images as before, or those of records that were read, with some that the job wrote, or of
-- these packed
pub data LeavesImages (command : Command) (old new : Seen) : Type 0 where
  kept : KeepsImages old new → LeavesImages command old new
  ran : (records : List Record) (kind : Kind) → IsOpened old records → RunsKind command old new kind
      → EachImage new.disk (IsAfter records kind (profile_named command) old new) →
      LeavesImages command old new
  was_packed : (records : List Record) → IsOpened old records → command ≡ PackJournal
      → EachImage new.disk (λ image. StandsFor image records ⊎ StandsFor image (packed records)) →
      LeavesImages command old new

-- a store was set up, or each image is one that a failed init may leave
abbrev pub InitImages : Numbers → Seen → Seen → Type 0
InitImages numbers old new = (key : List ℕ) × (Goes (IsSetUpOn (setup_with numbers key)) old.disk new.disk
    ⊎ IfSome old.disk (λ cells. EachImage new.disk (MayBeLeft (setup_with numbers key) cells)))

-- no provider was fetched from
abbrev pub SameFetches : Seen → Seen → Type 0
SameFetches old new = (j : ℕ) → (provider_at new.providers j).fetches ≡ (provider_at old.providers j).fetches

-- a command that stores blocks
abbrev pub stores_blocks : Command → Bool
stores_blocks (PutUnder name) = true
stores_blocks (PutAt name profile) = true
stores_blocks RepairAll = true
stores_blocks ScrubAll = true
stores_blocks command = false

-- a command that opens rows
abbrev pub opens_rows : Command → Bool
opens_rows (RowOf n l b seen) = true
opens_rows (GetOf name) = true
opens_rows RepairAll = true
opens_rows ScrubAll = true
opens_rows command = false

-- a store of a put failed: its start came in, which brings no file and no repair and takes none
pub record FailsToPut (name : List ℕ) (profile : Option ℕ) (old new : Seen) (end : Ending) : Type 0 where
  pub records : List Record
  pub bytes : List ℕ
  pub opened : IsOpened old records
  pub are_bytes : AreBytes bytes
  pub read : ReadsFront old.source new.source bytes
  pub few : length bytes ≤ largest_file
  pub provider : end.at < (setup_in_effect records).n
  pub rose : Rose (provider_at old.providers end.at).store_faults
      (provider_at new.providers end.at).store_faults
  pub sink : new.sink ≡ old.sink
  pub disk : DiskHas opened.area (after_begin records name) new
  pub stored : StoresPart (ran_to (after_begin records name) records old new end.heard) profile bytes

-- a store of a repair failed, of a flagged provider: the repair stays due, and some of its blocks may have
-- been written anew
pub record FailsToRepair (old new : Seen) (end : Ending) : Type 0 where
  pub records : List Record
  pub due : Due
  pub opened : IsOpened old records
  pub is_due : due_of records ≡ Some due
  pub provider : end.at < (setup_in_effect records).n
  pub flagged : is_flagged (setup_in_effect records).tolerance due.counts end.at ≡ true
  pub rose : Rose (provider_at old.providers end.at).store_faults
      (provider_at new.providers end.at).store_faults
  pub sink : new.sink ≡ old.sink
  pub disk : DiskHas opened.area records new
  pub part : RewritesSome (ran_to records records old new end.heard)
      (flags (ran_to records records old new end.heard) due)

-- a get found a row lost, the lowest of the first stripe that has one, and gave nothing
pub record LosesFile (name : List ℕ) (old new : Seen) (end : Ending) : Type 0 where
  pub records : List Record
  pub file : File
  pub stripe : ℕ
  pub opened : IsOpened old records
  pub in_effect : file_of records name ≡ Some file
  pub lost : LosesStripe (ran_to records records old new end.heard) file stripe end.at
  pub sink : new.sink ≡ old.sink
  pub disk : DiskHas opened.area records new

-- a repair found a row lost: it stays due, and some of the flagged providers' blocks before that place may
-- have been written anew
pub record LosesRepair (old new : Seen) (end : Ending) : Type 0 where
  pub records : List Record
  pub due : Due
  pub stripe : ℕ
  pub opened : IsOpened old records
  pub is_due : due_of records ≡ Some due
  pub lost : LosesAtPlace (ran_to records records old new end.heard)
      (flags (ran_to records records old new end.heard) due) stripe end.at
  pub sink : new.sink ≡ old.sink
  pub disk : DiskHas opened.area records new

-- a store of a scrub failed: some blocks may have been written anew, of any provider, and no record came in
pub record FailsToScrub (old new : Seen) (end : Ending) : Type 0 where
  pub records : List Record
  pub opened : IsOpened old records
  pub provider : end.at < (setup_in_effect records).n
  pub rose : Rose (provider_at old.providers end.at).store_faults
      (provider_at new.providers end.at).store_faults
  pub sink : new.sink ≡ old.sink
  pub disk : DiskHas opened.area records new
  pub part : RewritesSome (ran_to records records old new end.heard) everyone

-- a scrub found a row lost: blocks before that place may have been written anew, and no record came in
pub record LosesScrub (old new : Seen) (end : Ending) : Type 0 where
  pub records : List Record
  pub stripe : ℕ
  pub opened : IsOpened old records
  pub lost : LosesAtPlace (ran_to records records old new end.heard) everyone stripe end.at
  pub sink : new.sink ≡ old.sink
  pub disk : DiskHas opened.area records new
