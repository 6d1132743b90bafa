-- How what came of a command is told.
--
--   unread_ending fault                 == how a command ends whose source was not read
--   unopened_ending why                 == how a command ends for which no vault was opened
--   unbegun_ending why                  == how a put ends that did not begin
--   TellsOf s tolerance kind            == what the lines of answers speak of, for a job of this kind
--   no_memory                           == there was no memory for a text
--   IsTextOf s answer text              == the text of an answer; a fault has none
--   IsFaultEnd answer status at         == the status of a fault and the place that it speaks of; any other
--                                          answer has want of memory
--   TellsAnswer s answer status at sink == the text of the answer is written or cut off, or its fault is told
--   TellsStreamed name how end sink     == how a put under a name ended is told: by its answer and how many
--                                          bytes were read, or by why it was given up
--   TellsScrub answer status at sink    == the same of a scrub
--   TellsPack answer status at sink     == the same of a pack
use Rattle.std.specs.Prelude.{◌≡◌, ◌⊎◌, ℕ, List, length}
use Rattle.machine_defs.specs.Jobs.{Kind, PutJob, GetJob, DropJob, AuditJob, RepairJob, UpgradeJob}
use Rattle.machine_defs.specs.Answers.{Answer, Put, Got, Dropped, Audited, Repaired, Upgraded, Scrubbed, Packed, Lost, ProviderFault, DiskFault}
use Rattle.command_defs.specs.Lines.{stored_line, dropped_line, audit_lines, repaired_line, upgraded_line, scrub_lines, packed_line}
use Rattle.command_defs.specs.Seen.{Ending}
use Rattle.command_defs.specs.Sinking.{Sinking, WritesLine}
use Rattle.command_jobs.specs.declared.open.Unopened.{Unopened}
use Rattle.command_jobs.specs.declared.open.Unopened.TheVariants as unopened
use Rattle.command_jobs.specs.declared.stream.Streamed.{Streamed}
use Rattle.command_jobs.specs.declared.stream.Streamed.TheVariants as streamed
use Rattle.command_jobs.specs.declared.stream.Unbegun.{Unbegun}
use Rattle.command_jobs.specs.declared.stream.Unbegun.TheVariants as unbegun
use Rattle.vault.specs.declared.turn.Ended.{Ended}
use Rattle.vault.specs.Outcomes.{machine_answer}
use Rattle.vault_core.specs.Carried.{refusal_of}
use Rattle.command_defs.specs.Refusals.{status_of}
use Rattle.hail_top.specs.declared.reading.ReadFault.{ReadFault}
use Rattle.hail_top.specs.declared.reading.ReadFault.TheVariants as read_fault
use Rattle.hail_top.specs.declared.tell.Subject.{Subject}
use Rattle.hail_top.specs.declared.tell.Fault.{Fault}
use Rattle.hail_top.specs.Endings.{ending_with}

-- how a command ends whose source was not read
abbrev pub unread_ending : ReadFault → Ending
unread_ending read_fault.Failed = ending_with 14 0
unread_ending read_fault.Memory = ending_with 70 0

-- how a command ends for which no vault was opened
abbrev pub unopened_ending : Unopened → Ending
unopened_ending unopened.DiskFault = ending_with 12 0
unopened_ending unopened.NotSetUp = ending_with 9 0
unopened_ending (unopened.BadJournal at) = ending_with 8 at
unopened_ending unopened.TooFewProviders = ending_with 22 0
unopened_ending unopened.Memory = ending_with 70 0

-- how a put ends that did not begin
abbrev pub unbegun_ending : Unbegun → Ending
unbegun_ending unbegun.SourceFault = ending_with 14 0
unbegun_ending unbegun.Memory = ending_with 70 0
unbegun_ending (unbegun.Refused why) = ending_with (status_of (refusal_of why)) 0

-- what the lines of answers to a job of this kind speak of beside the answer
abbrev pub TellsOf : Subject → ℕ → Kind → Type 0
TellsOf s tolerance (PutJob name bytes) = (s.name.now ≡ name) × (s.length ≡ length bytes)
TellsOf s tolerance (GetJob name) = Unit {0}
TellsOf s tolerance (DropJob name) = s.name.now ≡ name
TellsOf s tolerance AuditJob = s.tolerance ≡ tolerance
TellsOf s tolerance RepairJob = Unit {0}
TellsOf s tolerance UpgradeJob = Unit {0}

-- there was no memory for a text
abbrev pub no_memory : Fault
no_memory = record { status = 70; at = 0 }

-- the text of an answer
abbrev pub IsTextOf : Subject → Answer → List ℕ → Type 0
IsTextOf s Put text = text ≡ stored_line s.name.now s.length
IsTextOf s (Got bytes) text = text ≡ bytes
IsTextOf s Dropped text = text ≡ dropped_line s.name.now
IsTextOf s (Audited number undecided counts) text = text ≡ audit_lines s.tolerance number undecided counts
IsTextOf s (Repaired number) text = text ≡ repaired_line number
IsTextOf s Upgraded text = text ≡ upgraded_line
IsTextOf s answer text = ⊥

-- the status of a fault, and the place that it speaks of; for any other answer, want of memory for its text
abbrev pub IsFaultEnd : Answer → ℕ → ℕ → Type 0
IsFaultEnd (Lost stripe row) status at = (status ≡ 4) × (at ≡ row)
IsFaultEnd (ProviderFault provider) status at = (status ≡ 13) × (at ≡ provider)
IsFaultEnd DiskFault status at = (status ≡ 12) × (at ≡ 0)
IsFaultEnd answer status at = (status ≡ 70) × (at ≡ 0)

-- an answer's text was written
pub record WritesAnswer (s : Subject) (answer : Answer) (status at : ℕ) (sink : Sinking) : Type 0 where
  pub text : List ℕ
  pub text_is : IsTextOf s answer text
  pub written : WritesLine text status sink
  pub place : at ≡ 0

-- an answer was told by its status alone
pub record TellsFault (answer : Answer) (status at : ℕ) (sink : Sinking) : Type 0 where
  pub fault : IsFaultEnd answer status at
  pub silent : sink.new ≡ sink.old

-- an answer was told
abbrev pub TellsAnswer : Subject → Answer → ℕ → ℕ → Sinking → Type 0
TellsAnswer s answer status at sink = WritesAnswer s answer status at sink ⊎ TellsFault answer status at sink

-- the end of a put's job was told, whose file has so many bytes
pub record TellsPut (name : List ℕ) (ended : Ended) (length : ℕ) (end : Ending) (sink : Sinking) : Type 0 where
  pub subject : Subject
  pub name_is : subject.name.now ≡ name
  pub length_is : subject.length ≡ length
  pub told : TellsAnswer subject (machine_answer ended.answer) end.status end.at sink
  pub heard : end.heard ≡ ended.heard

-- how a put ended was told, or why it was given up
abbrev pub TellsStreamed : List ℕ → Streamed → Ending → Sinking → Type 0
TellsStreamed name (streamed.Ended ended length) end sink = TellsPut name ended length end sink
TellsStreamed name streamed.SourceFault end sink = (end ≡ ending_with 14 0) × (sink.new ≡ sink.old)
TellsStreamed name streamed.TooLong end sink = (end ≡ ending_with 16 0) × (sink.new ≡ sink.old)

-- a scrub's answer was told: what differed is written or cut off, or its fault is the status
abbrev pub TellsScrub : Answer → ℕ → ℕ → Sinking → Type 0
TellsScrub (Scrubbed stripes symbols blocks) status at sink =
    WritesLine (scrub_lines stripes symbols blocks) status sink × (at ≡ 0)
TellsScrub answer status at sink = IsFaultEnd answer status at × (sink.new ≡ sink.old)

-- a pack's answer was told: the two lengths are written or cut off, or its fault is the status
abbrev pub TellsPack : Answer → ℕ → ℕ → Sinking → Type 0
TellsPack (Packed before after) status at sink = WritesLine (packed_line before after) status sink × (at ≡ 0)
TellsPack answer status at sink = IsFaultEnd answer status at × (sink.new ≡ sink.old)
