-- How `replay` and `trial` end.
--
--   longest_schedule                == how many bytes a schedule has at most
--   devices_of_seen s               == disk and providers as they are seen
--   IsUndone status at old new end  == the command ended so, and no event was done: no device but the source
--                                      was touched
--   CarriedOut status sink          == how the events and their lines end: with 0; with 15 where the sink's
--                                      count rose; or for want of memory
--   AnswersReplay old new end       == `replay`: it reads its source, and does the events of the schedule
--                                      that it reads
--   AnswersTrial number old new end == `trial`: it does the events of the trial of a number
use Rattle.std.specs.Prelude.{◌≡◌, ◌⊎◌, ℕ, ◌+◌, ◌<◌, ◌≤◌, ◌^◌, List, [], length, IsSome}
use Rattle.command_defs.specs.Seen.{Seen, Ending, SameSource, ReadsAtMost, ReadsUpTo, sinking}
use Rattle.command_defs.specs.Sinking.{Sinking}
use Rattle.device_defs.specs.Faults.{Rose}
use Rattle.machine_defs.specs.Runs.{Moment}
use Rattle.machine_defs.specs.States.{State}
use Rattle.machine_defs.specs.Transcripts.{Instruction}
use Rattle.schedule_text.specs.Schedules.{IsSchedule, IsFirstBadLine}
use Rattle.vault_open.specs.Devices.{Devices, devices}
use Rattle.hail_replay.specs.Starts.{AreLeft}
use Rattle.hail_replay.specs.Replayed.{Replays}
use Rattle.hail_replay.specs.Trials.{RunsTrial, RunsTo}
use Rattle.trial_maker.specs.Trials.{trial_commands}

-- how many bytes a schedule has at most
abbrev pub longest_schedule : ℕ
longest_schedule = 2 ^ 24

-- how many providers a trial uses
abbrev pub trial_providers : ℕ
trial_providers = 6

-- disk and providers as they are seen
abbrev pub devices_of_seen : Seen → Devices
devices_of_seen s = devices s.disk s.disk_faults s.providers

-- no event was done
pub record IsUndone (status at : ℕ) (old new : Seen) (end : Ending) : Type 0 where
  pub status_is : end.status ≡ status
  pub place : end.at ≡ at
  pub heard : end.heard ≡ []
  pub disk : new.disk ≡ old.disk
  pub disk_faults : new.disk_faults ≡ old.disk_faults
  pub providers : new.providers ≡ old.providers
  pub sink : new.sink ≡ old.sink

-- how the events end
abbrev pub CarriedOut : ℕ → Sinking → Type 0
CarriedOut status sink = (status ≡ 0) ⊎ ((status ≡ 15) × Rose sink.before sink.now) ⊎ (status ≡ 70)

-- a schedule was read, and its events were done, or a front of them
pub record DoesSchedule (text : List ℕ) (old new : Seen) (end : Ending) : Type 0 where
  pub commands : List Instruction
  pub schedule : IsSchedule text commands
  pub ends : CarriedOut end.status (sinking old new)
  pub place : end.at ≡ 0
  pub runs : (start : State) (before : List Moment) → IsSome old.disk
      → AreLeft start before (devices_of_seen old)
      → Replays start before commands end.status (sinking old new) end.heard (devices_of_seen new)

-- a `replay`
pub data AnswersReplay (old new : Seen) (end : Ending) : Type 0 where
  source_fault : Rose old.source_faults new.source_faults
      → ReadsAtMost (longest_schedule + 1) old.source new.source → IsUndone 14 0 old new end
      → AnswersReplay old new end
  too_long : (front : List ℕ) → ReadsUpTo (longest_schedule + 1) old.source new.source front
      → longest_schedule < length front
      → IsUndone 16 0 old new end → AnswersReplay old new end
  bad_line : (text : List ℕ) (number : ℕ) → ReadsUpTo (longest_schedule + 1) old.source new.source text
      → length text ≤ longest_schedule
      → IsFirstBadLine text number → IsUndone 19 number old new end → AnswersReplay old new end
  no_memory : ReadsAtMost (longest_schedule + 1) old.source new.source → IsUndone 70 0 old new end
      → AnswersReplay old new end
  done : (text : List ℕ) → ReadsUpTo (longest_schedule + 1) old.source new.source text
      → length text ≤ longest_schedule
      → DoesSchedule text old new end → AnswersReplay old new end

-- the events of a trial were done, or a front of them
pub record DoesTrial (number : ℕ) (old new : Seen) (end : Ending) : Type 0 where
  pub ends : CarriedOut end.status (sinking old new)
  pub place : end.at ≡ 0
  pub runs : (start : State) (before : List Moment) → IsSome old.disk
      → AreLeft start before (devices_of_seen old)
      → RunsTrial number start before end.status (sinking old new) end.heard (devices_of_seen new)
      ⊎ ((end.status ≡ 70) × (new.sink ≡ old.sink)
      × RunsTo start before (trial_commands number) end.heard (devices_of_seen new))

-- a `trial`, which reads no source
pub data AnswersTrial (number : ℕ) (old new : Seen) (end : Ending) : Type 0 where
  too_few : length old.providers < trial_providers → SameSource old new → IsUndone 22 0 old new end
      → AnswersTrial number old new end
  no_memory : SameSource old new → IsUndone 70 0 old new end → AnswersTrial number old new end
  done : trial_providers ≤ length old.providers → SameSource old new → DoesTrial number old new end
      → AnswersTrial number old new end
