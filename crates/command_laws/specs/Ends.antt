-- What a command says by its status, where no run of its job and no state stands in the statement.
--
--   IsKnown old records                == the disk tells what it holds and reads these records, and enough
--                                         providers are handed in
--   IsDone end                         == status 0, or 15: it is done, and the sink took its text, or failed
--                                         at it
--   GivesText text old new end         == status 0, with the text behind what the sink held
--   GivesUnlessMemory text old new end == the same, or status 70, with a front of the text at most
--   SameHolds old new                  == each provider that was handed in holds what it held, where it tells
--                                         it
--   opens_store command                == the command looks at the records of a store
--   put_of name own                    == the words of a put, with the profile that it names, or with none
--   profile_named command              == the profile that a command names
--   put_refusal area records name own  == why a put is refused, whatever its source: for a profile that there
--                                         is none of before all else, since its source is not read then
--   after_put records name size own, after_drop, after_audit, after_repair, after_upgrade
--                                      == the records that such a job that is done leaves
--   ran_to after records old new heard == what a job left that was done, as it is seen
--   RunsKind command old new kind      == the command runs a job of this kind: a put of a first part of what
--                                         it read
--   ReadsWhole kind old new            == the bytes of such a put are its whole source
--   GivesUpPut name own old new end    == what a put leaves that was given up behind its begin, since its
--                                         source failed or has more bytes than a file may have
--   EndsInOrder command old new end    == status 0, or 70, or the command is refused, with its cause, or its
--                                         source is too long
--   FaultsHaveCauses old new end       == a status of a fault comes only where the count of that device rose
--   AreSafe records old new bytes      == for each file in effect at most b providers are wrong for its
--                                         bytes, or failed
--   HoldsFile records new bytes file j == what is told of provider j has each block of a file of these bytes
--   IsWholePut name own old new end, IsDropped, IsAudited, IsRepaired, IsUpgraded, IsScrubbed, IsPacked
--                                      == what a command has done that is done; its text is told, or cut off
use Rattle.std.specs.Prelude.{◌≡◌, ◌⊎◌, ℕ, ◌+◌, ◌≤◌, ◌<◌, Bool, true, false, IsTrue, List, [], ◌∷◌, ◌++◌, length, Option, None, Some, IfSome, is_some, if◌then◌else◌}
use Rattle.column_defs.specs.Columns.{columns}
use Rattle.device_defs.specs.Faults.{Rose}
use Rattle.device_defs.specs.Images.{EachImage}
use Rattle.device_defs.specs.Told.{told_then, TakesFront}
use Rattle.record_defs.specs.Records.{Record, PutStart, Drop, AuditStart, AuditDone, RepairDone, Version, largest_file}
use Rattle.record_defs.specs.Areas.{Area, other_area, text_length, StandsActive}
use Rattle.record_defs.specs.Packed.{AreAlike, packed}
use Rattle.record_defs.specs.Table.{File, Due, file_as, version_of, next_id, next_audit, file_of, due_of}
use Rattle.machine_defs.specs.Jobs.{Kind, PutJob, GetJob, DropJob, AuditJob, RepairJob, UpgradeJob}
use Rattle.machine_defs.specs.Events.{AreBytes}
use Rattle.machine_defs.specs.Begins.{chosen}
use Rattle.machine_defs.specs.Refusals.{Refusal, BadProfile}
use Rattle.machine_defs.specs.Heard.{Entry}
use Rattle.command_defs.specs.Seen.{Seen, Ending, ReadsUpTo, ReadsFront, IsRefused, IsSynced, provider_at}
use Rattle.command_defs.specs.Opens.{IsOpened, Unstarted, setup_in_effect, object_in_effect, stripes_in_effect}
use Rattle.code_defs.specs.Profiles.{is_unknown}
use Rattle.command_defs.specs.Refusals.{refusal_over, pack_refusal_over, status_of}
use Rattle.command_defs.specs.Ran.{Ran, ran_alone, EachHeldGoes}
use Rattle.command_defs.specs.Forms.{Command, RowOf, InitWith, PutUnder, PutAt, GetOf, DropOf, AuditAll, RepairAll, UpgradeJournal, PackJournal}
use Rattle.command_defs.specs.Lines.{stored_line, dropped_line, audit_lines, repaired_line, upgraded_line, scrub_lines, packed_line}
use Rattle.command_defs.specs.Blocks.{DroppedFrom}
use Rattle.command_defs.specs.Puts.{put_done, StoresFile, StoresAll}
use Rattle.command_defs.specs.GivenUp.{put_stripe, after_begin, StopsReading}
use Rattle.command_defs.specs.Audits.{HearsRounds, CountsHeard}
use Rattle.command_defs.specs.Repairs.{flags, RewritesAll}
use Rattle.command_defs.specs.Scrubs.{SweepsAll}
use Rattle.command_defs.specs.Jobs.{IsTold}
use Rattle.job_laws.specs.Failing.{bad_seen}

-- the disk tells that it reads these records, and enough providers are handed in
pub record IsKnown (old : Seen) (records : List Record) : Type 0 where
  pub tells : is_some old.disk ≡ true
  pub opened : IsOpened old records

-- the command is done, and its text was written, or cut off by a fault of the sink
abbrev pub IsDone : Ending → Type 0
IsDone end = (end.status ≡ 0) ⊎ (end.status ≡ 15)

-- the text was written, at status 0
abbrev pub GivesText : List ℕ → Seen → Seen → Ending → Type 0
GivesText text old new end = (end.status ≡ 0) × (new.sink ≡ told_then old.sink text)

-- the text was written, or no memory was found
abbrev pub GivesUnlessMemory : List ℕ → Seen → Seen → Ending → Type 0
GivesUnlessMemory text old new end =
    GivesText text old new end ⊎ ((end.status ≡ 70) × TakesFront old.sink new.sink text)

-- each provider holds what it held
abbrev pub SameHolds : Seen → Seen → Type 0
SameHolds old new = (j : ℕ) → (provider_at new.providers j).held ≡ (provider_at old.providers j).held

-- a command looks at the records of a store
abbrev pub opens_store : Command → Bool
opens_store (RowOf n l b seen) = false
opens_store (InitWith numbers) = false
opens_store command = true

-- the words of a put, with the profile that it names, or with none
abbrev pub put_of : List ℕ → Option ℕ → Command
put_of name None = PutUnder name
put_of name (Some profile) = PutAt name profile

-- the profile that a command names
abbrev pub profile_named : Command → Option ℕ
profile_named (PutAt name profile) = Some profile
profile_named command = None

-- Why a put is refused, whatever its source: for a profile that there is none of before all else. That its
-- source is too long shows behind its begin.
abbrev pub put_refusal : Area → List Record → List ℕ → Option ℕ → Option Refusal
put_refusal area records name own =
    if is_unknown own then Some BadProfile else refusal_over area records (PutJob name []) own

-- a put of a first part of what was read
abbrev pub PutsFront : List ℕ → Seen → Seen → Kind → Type 0
PutsFront name old new kind =
    (bytes : List ℕ) × (rest : List ℕ) × ReadsFront old.source new.source (bytes ++ rest)
    × (length bytes ≤ largest_file) × (kind ≡ PutJob name bytes)

-- the kind of the job that a command runs
abbrev pub RunsKind : Command → Seen → Seen → Kind → Type 0
RunsKind (PutUnder name) old new kind = PutsFront name old new kind
RunsKind (PutAt name profile) old new kind = PutsFront name old new kind
RunsKind (GetOf name) old new kind = kind ≡ GetJob name
RunsKind (DropOf name) old new kind = kind ≡ DropJob name
RunsKind AuditAll old new kind = kind ≡ AuditJob
RunsKind RepairAll old new kind = kind ≡ RepairJob
RunsKind UpgradeJournal old new kind = kind ≡ UpgradeJob
RunsKind command old new kind = ⊥

-- the bytes of a put are its whole source
abbrev pub ReadsWhole : Kind → Seen → Seen → Type 0
ReadsWhole (PutJob name bytes) old new =
    ReadsFront old.source new.source bytes × IfSome new.source (λ left. left ≡ [])
ReadsWhole kind old new = Unit {0}

-- what a job left that was done, as it is seen
abbrev pub ran_to : List Record → List Record → Seen → Seen → List Entry → Ran
ran_to after records old new heard = ran_alone records old new heard old.disk_faults after None

-- each image of the disk stands for these records, in this area
abbrev pub DiskHas : Area → List Record → Seen → Type 0
DiskHas area records new = EachImage new.disk (λ image. StandsActive image area records)

-- a put was given up behind its begin: its start came in, which brings no file and no repair and takes none,
-- and the whole stripes of what was read are stored under its number
pub record GivesUpPut (name : List ℕ) (own : Option ℕ) (old new : Seen) (end : Ending) : Type 0 where
  pub records : List Record
  pub bytes : List ℕ
  pub opened : IsOpened old records
  pub taken : put_refusal opened.area records name own ≡ None
  pub stops : StopsReading (put_stripe records own) bytes old new end
  pub disk : DiskHas opened.area (after_begin records name) new
  pub stored : StoresAll (ran_to (after_begin records name) records old new end.heard) own bytes
  pub others : (j : ℕ) → (setup_in_effect records).n ≤ j
      → provider_at new.providers j ≡ provider_at old.providers j

-- a command is done, or found no memory, or is refused: before its begin, for a profile that there is none
-- of, or for the first cause that applies over records that a start accepts; or it is a put that was given up
-- since its source is too long
pub data EndsInOrder (command : Command) (old new : Seen) (end : Ending) : Type 0 where
  done : end.status ≡ 0 → EndsInOrder command old new end
  no_memory : end.status ≡ 70 → EndsInOrder command old new end
  unstarted : Unstarted old new end → EndsInOrder command old new end
  bad_profile : (records : List Record) → IsOpened old records → IsTrue (is_unknown (profile_named command))
      → IsRefused 20 0 old new end → EndsInOrder command old new end
  refused : (records : List Record) (kind : Kind) (why : Refusal) → (opened : IsOpened old records)
      → RunsKind command old new kind
      → refusal_over opened.area records kind (profile_named command) ≡ Some why →
      IsRefused (status_of why) 0 old new end → EndsInOrder command old new end
  too_long : (name : List ℕ) (own : Option ℕ) → command ≡ put_of name own → end.status ≡ 16
      → GivesUpPut name own old new end → EndsInOrder command old new end
  pack_refused : (records : List Record) (why : Refusal) → (opened : IsOpened old records)
      → command ≡ PackJournal → pack_refusal_over opened.area records ≡ Some why →
      IsRefused (status_of why) 0 old new end → EndsInOrder command old new end

-- a status of a fault comes only where the count of that device rose; that of a provider is told by its place
pub record FaultsHaveCauses (old new : Seen) (end : Ending) : Type 0 where
  pub disk : end.status ≡ 12 → Rose old.disk_faults new.disk_faults
  pub provider : end.status ≡ 13 → Rose (provider_at old.providers end.at).store_faults
      (provider_at new.providers end.at).store_faults
  pub source : end.status ≡ 14 → Rose old.source_faults new.source_faults
  pub sink : end.status ≡ 15 → Rose old.sink_faults new.sink_faults

-- for each file in effect at most b providers are wrong for its bytes, given by its number, or failed
abbrev pub AreSafe : List Record → Seen → Seen → (ℕ → List ℕ) → Type 0
AreSafe records old new bytes = (name : List ℕ) (file : File) → file_of records name ≡ Some file →
    (length (bytes file.id) ≡ file.size)
    × (bad_seen records old new file (bytes file.id) ≤ (setup_in_effect records).b)

-- what is told of provider j has each block of a file of these bytes
abbrev pub HoldsFile : List Record → Seen → List ℕ → File → ℕ → Type 0
HoldsFile records new bytes file j = (stripe : ℕ) → stripe < stripes_in_effect records file →
    IfSome (provider_at new.providers j).held
    (λ held. held file.id stripe ≡ Some (columns (object_in_effect records file) bytes j stripe))

-- the records after a put
abbrev pub after_put : List Record → List ℕ → ℕ → Option ℕ → List Record
after_put records name size own = put_done records size own ∷ PutStart (next_id records) name ∷ records

-- the records after a drop
abbrev pub after_drop : List Record → List ℕ → List Record
after_drop records name = Drop name ∷ records

-- the records after an audit
abbrev pub after_audit : List Record → ℕ → List ℕ → List Record
after_audit records undecided counts =
    AuditDone (next_audit records) undecided counts ∷ AuditStart (next_audit records) ∷ records

-- the records after a repair
abbrev pub after_repair : List Record → Due → List Record
after_repair records due = RepairDone due.number ∷ records

-- the records after an upgrade
abbrev pub after_upgrade : List Record → List Record
after_upgrade records = Version ∷ records

-- a put: the whole source is stored on every provider, and in effect, with the profile that was named, or
-- else the setup's
pub record IsWholePut (name : List ℕ) (own : Option ℕ) (old new : Seen) (end : Ending) : Type 0 where
  pub records : List Record
  pub bytes : List ℕ
  pub opened : IsOpened old records
  pub are_bytes : AreBytes bytes
  pub read : ReadsUpTo (largest_file + 1) old.source new.source bytes
  pub whole : IfSome new.source (λ left. left ≡ [])
  pub told : IsTold (stored_line name (length bytes)) old new end
  pub disk : DiskHas opened.area (after_put records name (length bytes) own) new
  pub in_effect : file_of (after_put records name (length bytes) own) name
      ≡ Some (file_as name (next_id records) (length bytes) (chosen (setup_in_effect records) own))
  pub stored : StoresFile (ran_to (after_put records name (length bytes) own) records old new end.heard) own
      name bytes

-- a drop: the record came in that takes the file out of effect, and its blocks are gone but where a count rose
pub record IsDropped (name : List ℕ) (old new : Seen) (end : Ending) : Type 0 where
  pub records : List Record
  pub file : File
  pub opened : IsOpened old records
  pub was_in_effect : file_of records name ≡ Some file
  pub told : IsTold (dropped_line name) old new end
  pub disk : DiskHas opened.area (after_drop records name) new
  pub gone : EachHeldGoes (ran_to (after_drop records name) records old new end.heard)
      (λ j. DroppedFrom file.id (Rose (provider_at old.providers j).other_faults
      (provider_at new.providers j).other_faults))

-- an audit: its counts are the verdicts on what it heard
pub record IsAudited (old new : Seen) (end : Ending) : Type 0 where
  pub records : List Record
  pub undecided : ℕ
  pub counts : List ℕ
  pub opened : IsOpened old records
  pub told : IsTold (audit_lines (setup_in_effect records).tolerance (next_audit records) undecided counts)
      old new end
  pub disk : DiskHas opened.area (after_audit records undecided counts) new
  pub heard : HearsRounds (ran_to (after_audit records undecided counts) records old new end.heard)
      (next_audit records)
  pub counted : CountsHeard (ran_to (after_audit records undecided counts) records old new end.heard)
      (next_audit records) undecided counts

-- a repair: each flagged provider holds the columns of what the fetches gave, and no repair is due
pub record IsRepaired (old new : Seen) (end : Ending) : Type 0 where
  pub records : List Record
  pub due : Due
  pub opened : IsOpened old records
  pub is_due : due_of records ≡ Some due
  pub told : IsTold (repaired_line due.number) old new end
  pub disk : DiskHas opened.area (after_repair records due) new
  pub rewritten : RewritesAll (ran_to (after_repair records due) records old new end.heard)
      (flags (ran_to (after_repair records due) records old new end.heard) due)

-- an upgrade: the journal was of its first version, the record of the second came in, which changes no file,
-- and providers hold what they held
pub record IsUpgraded (old new : Seen) (end : Ending) : Type 0 where
  pub records : List Record
  pub opened : IsOpened old records
  pub was_first : version_of records ≡ 1
  pub told : IsTold upgraded_line old new end
  pub disk : DiskHas opened.area (after_upgrade records) new
  pub held : SameHolds old new

-- a scrub: every row of every place is accepted of what the providers gave, the numbers told are what
-- differed in it, each provider holds its columns in all places, and no record came in
pub record IsScrubbed (old new : Seen) (end : Ending) : Type 0 where
  pub records : List Record
  pub stripes : ℕ
  pub symbols : List ℕ
  pub blocks : List ℕ
  pub opened : IsOpened old records
  pub told : IsTold (scrub_lines stripes symbols blocks) old new end
  pub synced : IsSynced old new
  pub disk : DiskHas opened.area records new
  pub swept : SweepsAll (ran_to records records old new end.heard) stripes symbols blocks

-- a pack: the disk has the packed records in the other area, of which a start makes the same setup, version,
-- numbers, files and due audit; the lengths told are those of the text before and after, and providers are as
-- before
pub record IsPacked (old new : Seen) (end : Ending) : Type 0 where
  pub records : List Record
  pub opened : IsOpened old records
  pub told : IsTold (packed_line (text_length opened.area records)
      (text_length (other_area opened.area) (packed records))) old new end
  pub disk : DiskHas (other_area opened.area) (packed records) new
  pub alike : AreAlike (packed records) records
  pub providers : new.providers ≡ old.providers
