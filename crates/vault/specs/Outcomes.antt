-- What the answers of the calls are as outcomes of the machine.
--
--   begin_outcome result   == of a begin
--   machine_answer answer  == how a job ended
--   outcome_of turn        == of a step
--   IfEnded turn P         == P holds of the job's end, where the step was its last
--   IsNoAction turn        == a step that made no action
--   HasPaddedCounts answer == the counts of an audit are padded
use Rattle.std.specs.Prelude.{ℕ, Result, Ok, Err}
use Rattle.machine_defs.specs.Refusals as refusal
use Rattle.machine_defs.specs.Answers as answers
use Rattle.machine_defs.specs.Events as events
use Rattle.machine_defs.specs.Events.{Outcome}
use Rattle.record_codec.specs.Entries.{counted, IsPadded}
use Rattle.vault_core.specs.declared.wish.BeginFault.{BeginFault}
use Rattle.vault_core.specs.Carried.{refusal_of}
use Rattle.vault.specs.declared.turn.Answer.{Answer}
use Rattle.vault.specs.declared.turn.Answer.TheVariants as answer
use Rattle.vault.specs.declared.turn.Ended.{Ended}
use Rattle.vault.specs.declared.turn.Turn.{Turn}
use Rattle.vault.specs.declared.turn.Turn.TheVariants as turn

-- the outcome of a begin
abbrev pub begin_outcome : Result ℕ BeginFault → Outcome
begin_outcome (Ok job) = events.Begun job
begin_outcome (Err fault) = events.Refused (refusal_of fault)

-- how a job ended
abbrev pub machine_answer : Answer → answers.Answer
machine_answer answer.Put = answers.Put
machine_answer (answer.Got bytes) = answers.Got bytes
machine_answer answer.Dropped = answers.Dropped
machine_answer (answer.Audited number undecided counts) = answers.Audited number undecided (counted counts)
machine_answer (answer.Repaired number) = answers.Repaired number
machine_answer answer.Upgraded = answers.Upgraded
machine_answer (answer.Lost stripe row) = answers.Lost stripe row
machine_answer (answer.ProviderFault provider) = answers.ProviderFault provider
machine_answer answer.DiskFault = answers.DiskFault
machine_answer answer.Memory = answers.Memory

-- the outcome of a step
abbrev pub outcome_of : Turn → Outcome
outcome_of turn.More = events.More
outcome_of (turn.Waiting holder) = events.Waiting holder
outcome_of (turn.Done ended) = events.Ended (machine_answer ended.answer)
outcome_of turn.NoSuchJob = events.Refused refusal.NoSuchJob
outcome_of turn.MustReopen = events.Refused refusal.MustReopen

-- a fact of the job's end, where the step was its last
abbrev pub IfEnded : Turn → (Ended → Type 0) → Type 0
IfEnded (turn.Done ended) P = P ended
IfEnded t P = Unit {0}

-- a step that made no action
abbrev pub IsNoAction : Turn → Type 0
IsNoAction (turn.Waiting holder) = Unit {0}
IsNoAction turn.NoSuchJob = Unit {0}
IsNoAction turn.MustReopen = Unit {0}
IsNoAction turn.More = ⊥
IsNoAction (turn.Done ended) = ⊥

-- the counts of an audit are padded
abbrev pub HasPaddedCounts : Answer → Type 0
HasPaddedCounts (answer.Audited number undecided counts) = IsPadded counts
HasPaddedCounts a = Unit {0}
