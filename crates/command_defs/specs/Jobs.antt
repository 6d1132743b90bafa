-- What a command leaves and says that runs one job.
--
--   Leaves x kind own answer                  == what a job of this kind leaves that ended with this answer
--   outside area records cells                == what a disk reads outside the text of records in an area:
--                                                in front of the area, and behind the text
--   SameOutside area kind own answer before after old new
--                                             == outside the text of the records in effect, with the one that
--                                                was being appended where the job was cut short, the disk
--                                                reads as before
--   RunsAlone area records kind own answer old new heard
--                                             == a job of this kind ran alone over these records, in this
--                                                area, and devices, as a run of the machine
--   LeftAlone area records kind own answer old new heard
--                                             == the same without its run: the records then in effect, what
--                                                is left and heard
--   EndsByAnswer text answer old new end      == how the command ends: the answer is told by its text, or by
--                                                the status of its fault
--   AnswersJob kind own area records old new end
--                                             == the job is refused, or ends, over these records
--
-- own is the profile that a put names; None where it has the setup's, and of every other job.
use Rattle.std.specs.Prelude.{◌≡◌, ◌⊎◌, ℕ, ◌≤◌, List, [], ◌∷◌, ◌++◌, length, reverse, take, drop, Option, None, Some, IfSome, IsSomeAnd}
use Rattle.std.specs.Option.{option_map}
use Rattle.device_defs.specs.Cells.{Cells, reads}
use Rattle.device_defs.specs.Images.{EachImage}
use Rattle.record_defs.specs.Records.{Record, Drop, RepairDone, Version}
use Rattle.record_defs.specs.Table.{due_of}
use Rattle.record_defs.specs.Areas.{Area, base_of, end_in, StandsActive}
use Rattle.machine_defs.specs.Jobs.{Kind, PutJob, GetJob, DropJob, AuditJob, RepairJob, UpgradeJob}
use Rattle.machine_defs.specs.Begins.{due_number}
use Rattle.machine_defs.specs.Answers.{Answer, Lost, ProviderFault, DiskFault, Memory}
use Rattle.machine_defs.specs.States.{State}
use Rattle.machine_defs.specs.Stands.{StandsForState}
use Rattle.machine_defs.specs.Heard.{Entry}
use Rattle.machine_defs.specs.Refusals.{Refusal}
use Rattle.command_defs.specs.Sinking.{WritesLine}
use Rattle.command_defs.specs.Seen.{Seen, Ending, IsRefused, IsSynced, sinking}
use Rattle.command_defs.specs.Opens.{setup_in_effect}
use Rattle.command_defs.specs.Refusals.{refusal_over, status_of}
use Rattle.command_defs.specs.Lines.{text_of}
use Rattle.command_defs.specs.Ran.{Ran, ran_alone, setup_at_begin, CountsRise, NoFetches}
use Rattle.opening_defs.specs.Opened.{AreHanded, IsJustOpened}
use Rattle.command_defs.specs.JobRuns.{RunsJob}
use Rattle.command_defs.specs.Puts.{PutLeaves, put_records}
use Rattle.command_defs.specs.Gets.{GetLeaves}
use Rattle.command_defs.specs.Drops.{DropLeaves}
use Rattle.command_defs.specs.Audits.{AuditLeaves, audit_records}
use Rattle.command_defs.specs.Repairs.{RepairLeaves}
use Rattle.command_defs.specs.Upgrades.{UpgradeLeaves}

-- what a job leaves and hears, by its kind; only gets and audits hear anything, and only gets and repairs
-- fetch
abbrev pub LeavesBy : Ran → Kind → Option ℕ → Answer → Type 0
LeavesBy x (PutJob name bytes) own answer =
    PutLeaves x own name bytes answer × NoFetches x × (x.heard ≡ [])
LeavesBy x (GetJob name) own answer = GetLeaves x name answer
LeavesBy x (DropJob name) own answer = DropLeaves x name answer × NoFetches x × (x.heard ≡ [])
LeavesBy x AuditJob own answer = AuditLeaves x answer
LeavesBy x RepairJob own answer = RepairLeaves x answer × (x.heard ≡ [])
LeavesBy x UpgradeJob own answer = UpgradeLeaves x answer × NoFetches x × (x.heard ≡ [])

-- what a job leaves: providers that it does not use stay as they are
pub record Leaves (x : Ran) (kind : Kind) (own : Option ℕ) (answer : Answer) : Type 0 where
  pub by_kind : LeavesBy x kind own answer
  pub counts : CountsRise x
  pub others : (j : ℕ) → (setup_at_begin x).n ≤ j → x.new j ≡ x.old j

-- the bytes that a disk reads outside the text of records in an area: those in front of the area, the switch
-- byte among them, and those behind the text
abbrev pub outside : Area → List Record → Cells → List ℕ × List ℕ
outside area records cells =
    (take (base_of area) (reads cells), drop (end_in area records) (reads cells))

-- of these records, given the oldest first, the first ones are in effect behind those before, and this one
-- comes next
pub record IsNextRecord (own before after : List Record) (next : Record) : Type 0 where
  pub done : List Record
  pub rest : List Record
  pub parts : own ≡ done ++ next ∷ rest
  pub after_is : after ≡ reverse done ++ before

-- the record of a job that comes next; a get appends none
abbrev pub IsNext : Kind → Option ℕ → List Record → List Record → Record → Type 0
IsNext (PutJob name bytes) own before after next =
    IsNextRecord (put_records before name (length bytes) own) before after next
IsNext (GetJob name) own before after next = ⊥
IsNext (DropJob name) own before after next = IsNextRecord (Drop name ∷ []) before after next
IsNext AuditJob own before after next =
    (undecided : ℕ) × (counts : List ℕ) × (length counts ≡ (setup_in_effect before).n)
    × IsNextRecord (audit_records before undecided counts) before after next
IsNext RepairJob own before after next =
    IsNextRecord (RepairDone (due_number (due_of before)) ∷ []) before after next
IsNext UpgradeJob own before after next = IsNextRecord (Version ∷ []) before after next

-- the records in effect, with the one that was being appended
abbrev pub with_next : Option Record → List Record → List Record
with_next None after = after
with_next (Some next) after = next ∷ after

-- the disk reads as before outside the text of the records in effect, with the job's next one where that was
-- being appended
pub record SameAround (area : Area) (kind : Kind) (own : Option ℕ) (before after : List Record)
    (old new : Option Cells) : Type 0 where
  pub next : Option Record
  pub is_next : IfSome next (IsNext kind own before after)
  pub same : option_map (outside area (with_next next after)) new
      ≡ option_map (outside area (with_next next after)) old

-- the disk reads as before outside the text of the records in effect; where the job ended in a fault of the
-- disk or for want of memory, outside that text with the record that was being appended
abbrev pub SameOutside : Area → Kind → Option ℕ → Answer → List Record → List Record → Option Cells
    → Option Cells → Type 0
SameOutside area kind own DiskFault before after old new = SameAround area kind own before after old new
SameOutside area kind own Memory before after old new = SameAround area kind own before after old new
SameOutside area kind own answer before after old new =
    option_map (outside area after) new ≡ option_map (outside area after) old

-- a job that ran alone, whatever the history and bytes of the recorded lengths the files have: it is a run of
-- the machine from any state just opened over these records and devices, after any number of events, and the
-- devices are those of its last state; outside the text of its records, with the one that was being appended
-- where it was cut short, the disk reads as before
pub record RanAlone (area : Area) (records : List Record) (kind : Kind) (own : Option ℕ) (answer : Answer)
    (old new : Seen) (heard : List Entry) (faults : ℕ) (w : State) (moment : ℕ) : Type 0 where
  pub last : State
  pub runs : RunsJob w moment kind own answer heard last
  pub images : StandsForState new.disk last
  pub faults_are : last.disk_faults ≡ new.disk_faults
  pub handed : AreHanded new.providers last
  pub outside_text : SameOutside area kind own answer records last.journal old.disk new.disk

-- so it is from every such state and moment, with what the disk's count of faults was once it was opened
pub record RunsAlone (area : Area) (records : List Record) (kind : Kind) (own : Option ℕ) (answer : Answer)
    (old new : Seen) (heard : List Entry) : Type 0 where
  pub faults : ℕ
  pub before : old.disk_faults ≤ faults
  pub ran : (w : State) (moment : ℕ) → IsJustOpened w area records 1 faults old.providers
      → RanAlone area records kind own answer old new heard faults w moment

-- what a job left that ran alone over these records, without its run: the records then in effect, and the
-- one in doubt, for which the disk's images stand, in the same area
pub record LeftAlone (area : Area) (records : List Record) (kind : Kind) (own : Option ℕ) (answer : Answer)
    (old new : Seen) (heard : List Entry) : Type 0 where
  pub faults : ℕ
  pub before : old.disk_faults ≤ faults
  pub after : List Record
  pub doubt : Option Record
  pub leaves : Leaves (ran_alone records old new heard faults after doubt) kind own answer
  pub images : EachImage new.disk (λ image. StandsActive image area after ⊎ IsSomeAnd doubt
      (λ entry. StandsActive image area (entry ∷ after)))
  pub outside_text : SameOutside area kind own answer records after old.disk new.disk

-- nothing was written
pub record IsSilent (status at : ℕ) (old new : Seen) (end : Ending) : Type 0 where
  pub status_is : end.status ≡ status
  pub place : end.at ≡ at
  pub sink : new.sink ≡ old.sink

-- the text was written, or cut off
pub record IsTold (text : List ℕ) (old new : Seen) (end : Ending) : Type 0 where
  pub written : WritesLine text end.status (sinking old new)
  pub place : end.at ≡ 0

-- how a command ends whose job ended with this answer
abbrev pub EndsByAnswer : List ℕ → Answer → Seen → Seen → Ending → Type 0
EndsByAnswer text (Lost stripe row) old new end = IsSilent 4 row old new end
EndsByAnswer text (ProviderFault j) old new end = IsSilent 13 j old new end
EndsByAnswer text DiskFault old new end = IsSilent 12 0 old new end
EndsByAnswer text Memory old new end = IsSilent 70 0 old new end
EndsByAnswer text answer old new end = IsTold text old new end

-- a command whose begin comes over these records
pub data AnswersJob (kind : Kind) (own : Option ℕ) (area : Area) (records : List Record) (old new : Seen)
    (end : Ending) : Type 0 where
  refused : (why : Refusal) → refusal_over area records kind own ≡ Some why → IsSynced old new
      → IsRefused (status_of why) 0 old new end →
      AnswersJob kind own area records old new end
  no_memory : IsSynced old new → IsRefused 70 0 old new end → AnswersJob kind own area records old new end
  ended : (answer : Answer) → refusal_over area records kind own ≡ None
      → RunsAlone area records kind own answer old new end.heard →
      LeftAlone area records kind own answer old new end.heard
      → EndsByAnswer (text_of (setup_in_effect records).tolerance kind answer) answer old new end
      → AnswersJob kind own area records old new end
