-- How each command ends.
--
--   AnswersRow of Row               == `row`; it looks at no device but the sink
--   AnswersInit of Inits            == `init`
--   MayBeWhole name bytes own area records answers
--                                   == the job of a put has ended with its last record in effect, or in doubt
--   DidNotBegin answers             == the job was refused, or found no memory to begin
--   ReadsWithin before size old new == of a source of which so many bytes were read before, some next ones
--                                      were read, fewer than size; in all no more than a file has
--   AnswersPut name own old new end == `put`, with the profile that it names: it opens the store, and reads its
--                                      source stripe by stripe, the first one before its job begins
--   AnswersAlone kind old new end   == `get`, `drop`, `audit`, `repair`, `upgrade`: they open the store and
--                                      run their job
--   AnswersList old new end         == `list`: it opens the store and writes the files in effect
--   AnswersScrub of Scrubs          == `scrub`
--   AnswersPack of Packs            == `pack`
--   Answers command old new end     == how a command ends, by its words
--   IsUsage old new end             == words that are no form of a command: status 2, or that of no memory
use Rattle.std.specs.Prelude.{◌≡◌, ⊤, ℕ, ◌+◌, ◌<◌, ◌≤◌, false, IsTrue, List, [], length, Option, None, Some, IfSome}
use Rattle.device_defs.specs.Faults.{Rose}
use Rattle.record_defs.specs.Records.{Record, largest_file}
use Rattle.record_defs.specs.Areas.{Area}
use Rattle.record_defs.specs.Table.{files_of}
use Rattle.machine_defs.specs.Jobs.{Kind, PutJob, GetJob, DropJob, AuditJob, RepairJob, UpgradeJob}
use Rattle.command_defs.specs.Forms.{Command, RowOf, InitWith, PutUnder, PutAt, GetOf, DropOf, ListAll, AuditAll, RepairAll, UpgradeJournal, ScrubAll, PackJournal}
use Rattle.command_defs.specs.Seen.{Seen, Ending, IsSynced, SameSource, ReadsFront, IsRefused, sinking}
use Rattle.command_defs.specs.Sinking.{Refuses, WritesLine}
use Rattle.command_defs.specs.Opens.{IsOpened, Unstarted}
use Rattle.code_defs.specs.Profiles.{is_unknown}
use Rattle.command_defs.specs.Refusals.{refusal_over}
use Rattle.command_defs.specs.Lines.{list_lines}
use Rattle.command_defs.specs.Row.{AnswersRow}
use Rattle.command_defs.specs.Puts.{MayHaveEnd}
use Rattle.command_defs.specs.Jobs.{AnswersJob}
use Rattle.command_defs.specs.GivenUp.{put_stripe, StopsReading, PartRuns, PartLeft}
use Rattle.command_defs.specs.Inits.{AnswersInit}
use Rattle.command_defs.specs.Scrubs.{AnswersScrub}
use Rattle.command_defs.specs.Packs.{AnswersPack}

-- no device but the sink was touched, and nothing was heard
pub record TouchesSink (old new : Seen) (end : Ending) : Type 0 where
  pub disk : new.disk ≡ old.disk
  pub disk_faults : new.disk_faults ≡ old.disk_faults
  pub providers : new.providers ≡ old.providers
  pub source : SameSource old new
  pub place : end.at ≡ 0
  pub heard : end.heard ≡ []

-- the job of a put has ended with its last record in effect, or in doubt
abbrev pub MayBeWhole : (name bytes : List ℕ) (own : Option ℕ) (area : Area) (records : List Record)
    {old new : Seen} {end : Ending} → AnswersJob (PutJob name bytes) own area records old new end → Type 0
MayBeWhole name bytes own area records (AnswersJob.refused why is synced refused) = ⊥
MayBeWhole name bytes own area records (AnswersJob.no_memory synced refused) = ⊥
MayBeWhole name bytes own area records (AnswersJob.ended answer unrefused runs left ends) =
    MayHaveEnd records left.after left.doubt name (length bytes) own

-- the job was refused, or found no memory to begin
abbrev pub DidNotBegin : {kind : Kind} {own : Option ℕ} {area : Area} {records : List Record} {old new : Seen}
    {end : Ending} → AnswersJob kind own area records old new end → Type 0
DidNotBegin (AnswersJob.refused why is synced refused) = ⊤
DidNotBegin (AnswersJob.no_memory synced refused) = ⊤
DidNotBegin (AnswersJob.ended answer unrefused runs left ends) = ⊥

-- fewer next bytes than so many were read of a source, and with those before no more than a file may have
pub record ReadsWithin (before size : ℕ) (old new : Option (List ℕ)) : Type 0 where
  pub bytes : List ℕ
  pub read : ReadsFront old new bytes
  pub short : length bytes < size
  pub limit : before + length bytes ≤ largest_file

-- A `put`, with the profile that it names; where there is none of its number, or no memory for a stripe, the
-- source is not read. The job is one of a file of the bytes that were read: the whole source, where its last
-- record is in effect or in doubt; no more than its first stripe, where the job did not begin; and else a first
-- part of it. A source that fails before the job begins fails within its first stripe.
pub data AnswersPut (name : List ℕ) (own : Option ℕ) (old new : Seen) (end : Ending) : Type 0 where
  unstarted : Unstarted old new end → SameSource old new → AnswersPut name own old new end
  bad_profile : (records : List Record) → IsOpened old records → IsTrue (is_unknown own)
      → IsSynced old new → SameSource old new → IsRefused 20 0 old new end → AnswersPut name own old new end
  source_fault : (records : List Record) → IsOpened old records → is_unknown own ≡ false
      → Rose old.source_faults new.source_faults → IsSynced old new →
      ReadsWithin 0 (put_stripe records own) old.source new.source → IsRefused 14 0 old new end
      → AnswersPut name own old new end
  no_memory : new.source ≡ old.source → IsRefused 70 0 old new end
      → AnswersPut name own old new end
  begun : (records : List Record) (bytes : List ℕ) → (opened : IsOpened old records)
      → is_unknown own ≡ false
      → ReadsFront old.source new.source bytes → length bytes ≤ largest_file →
      (answers : AnswersJob (PutJob name bytes) own opened.area records old new end)
      → (MayBeWhole name bytes own opened.area records answers → IfSome new.source (λ left. left ≡ []))
      → (DidNotBegin answers → length bytes ≤ put_stripe records own)
      → AnswersPut name own old new end
  given_up : (records : List Record) (bytes : List ℕ) → (opened : IsOpened old records)
      → is_unknown own ≡ false → refusal_over opened.area records (PutJob name bytes) own ≡ None →
      StopsReading (put_stripe records own) bytes old new end
      → PartRuns opened.area records name bytes own old new
      → PartLeft opened.area records name bytes own old new
      → AnswersPut name own old new end

-- a command that runs a job and reads no source
pub data AnswersAlone (kind : Kind) (old new : Seen) (end : Ending) : Type 0 where
  unstarted : Unstarted old new end → AnswersAlone kind old new end
  begun : (records : List Record) → (opened : IsOpened old records)
      → AnswersJob kind None opened.area records old new end → AnswersAlone kind old new end

-- the files in effect are written, or a part of them
pub record ListsFiles (records : List Record) (old new : Seen) (end : Ending) : Type 0 where
  pub written : WritesLine (list_lines (files_of records)) end.status (sinking old new)
  pub place : end.at ≡ 0
  pub heard : end.heard ≡ []
  pub disk : IsSynced old new
  pub providers : new.providers ≡ old.providers

-- a `list`
pub data AnswersList (old new : Seen) (end : Ending) : Type 0 where
  unstarted : Unstarted old new end → AnswersList old new end
  no_memory : IsRefused 70 0 old new end → AnswersList old new end
  listed : (records : List Record) → IsOpened old records → ListsFiles records old new end
      → AnswersList old new end

-- a command is answered, by its words
abbrev pub Answers : Command → Seen → Seen → Ending → Type 0
Answers (RowOf n l b seen) old new end =
    AnswersRow n l b seen end.status (sinking old new) × TouchesSink old new end
Answers (InitWith numbers) old new end = AnswersInit numbers old new end
Answers (PutUnder name) old new end = AnswersPut name None old new end
Answers (PutAt name profile) old new end = AnswersPut name (Some profile) old new end
Answers (GetOf name) old new end = AnswersAlone (GetJob name) old new end × SameSource old new
Answers (DropOf name) old new end = AnswersAlone (DropJob name) old new end × SameSource old new
Answers ListAll old new end = AnswersList old new end × SameSource old new
Answers AuditAll old new end = AnswersAlone AuditJob old new end × SameSource old new
Answers RepairAll old new end = AnswersAlone RepairJob old new end × SameSource old new
Answers UpgradeJournal old new end = AnswersAlone UpgradeJob old new end × SameSource old new
Answers ScrubAll old new end = AnswersScrub old new end × SameSource old new
Answers PackJournal old new end = AnswersPack old new end × SameSource old new

-- the words are no command
pub record IsUsage (old new : Seen) (end : Ending) : Type 0 where
  pub refused : Refuses 2 end.status (sinking old new)
  pub touches : TouchesSink old new end
