-- How the two commands end that carry events out: `replay` and `trial`.
--
--   AnswersForm form old new end   == how the command of a form ends
--   RunGoesOn start before heard d == behind a later call of the program moments carry some commands out; the
--                                     whole is a run, which keeps the headline; its last state is that of the
--                                     devices, and the jobs of this call heard this
--   AsksFor form old new commands  == the commands that a form asks for: those that the text of the source
--                                     spells, or those of the trial of a number
--   TellsForm form later lines status sink
--                                  == what is told of the moments that were carried out: their lines, or the
--                                     six lines of a trial's counts, or a front of these
--   FormGoesOn form commands start before old new end
--                                  == the commands are carried out in order as such moments, all of them at
--                                     status 0, and what is told of these is written
--   KeepsTheHeadline form old new end
--                                  == the command ended with a status other than 0 and no event was done; or
--                                     whatever run from a start has left the devices, what the form asks for
--                                     goes on with it
use Rattle.std.specs.Prelude.{◌≡◌, ◌≢◌, ◌⊎◌, ℕ, ◌+◌, List, [], ◌++◌, reverse, IsSome}
use Rattle.command_defs.specs.Seen.{Seen, Ending, ReadsUpTo, sinking}
use Rattle.command_defs.specs.Sinking.{Sinking, WritesLine}
use Rattle.machine_defs.specs.Heard.{Entry}
use Rattle.machine_defs.specs.Runs.{Moment}
use Rattle.machine_defs.specs.States.{State}
use Rattle.machine_defs.specs.Transcripts.{Instruction}
use Rattle.schedule_text.specs.Schedules.{IsSchedule}
use Rattle.trial_maker.specs.Trials.{trial_commands}
use Rattle.vault_open.specs.Devices.{Devices}
use Rattle.hail_replay.specs.Starts.{AreLeft}
use Rattle.hail_replay.specs.Replayed.{CarriesOn}
use Rattle.hail_replay.specs.TrialLines.{TellsTrial}
use Rattle.hail_replay.specs.Answers.{AnswersReplay, AnswersTrial, IsUndone, devices_of_seen, longest_schedule}
use Rattle.hail_replay.specs.declared.forms.Form.{Form}
use Rattle.hail_replay.specs.declared.forms.Form.TheVariants as forms

-- how the command of a form ends
abbrev pub AnswersForm : Form → Seen → Seen → Ending → Type 0
AnswersForm forms.Replay old new end = AnswersReplay old new end
AnswersForm (forms.Trial number) old new end = AnswersTrial number old new end

-- moments go on with a run
pub record RunGoesOn (start : State) (before : List Moment) (heard : List Entry) (d : Devices) : Type 0 where
  pub done : List Instruction
  pub later : List Moment
  pub lines : List ℕ
  pub carries : CarriesOn start before done later lines heard d

-- the commands that a text spells which the source gave
pub record AsksByText (old new : Seen) (commands : List Instruction) : Type 0 where
  pub text : List ℕ
  pub reads : ReadsUpTo (longest_schedule + 1) old.source new.source text
  pub spells : IsSchedule text commands

-- the commands that a form asks for
abbrev pub AsksFor : Form → Seen → Seen → List Instruction → Type 0
AsksFor forms.Replay old new commands = AsksByText old new commands
AsksFor (forms.Trial number) old new commands = commands ≡ trial_commands number

-- the lines of a trial's counts are written, or a front of them; for want of memory none may be
abbrev pub TellsCounts : ℕ → List Moment → ℕ → Sinking → Type 0
TellsCounts number later status sink =
    ((text : List ℕ) × TellsTrial number later text × WritesLine text status sink)
    ⊎ ((status ≡ 70) × (sink.new ≡ sink.old))

-- what is told of the moments that were carried out
abbrev pub TellsForm : Form → List Moment → List ℕ → ℕ → Sinking → Type 0
TellsForm forms.Replay later lines status sink = WritesLine lines status sink
TellsForm (forms.Trial number) later lines status sink = TellsCounts number later status sink

-- the commands are carried out in order, all of them at status 0, and told
pub record FormGoesOn (form : Form) (commands : List Instruction) (start : State) (before : List Moment)
    (old new : Seen) (end : Ending) : Type 0 where
  pub goes : RunGoesOn start before end.heard (devices_of_seen new)
  pub left : List Instruction
  pub order : commands ≡ reverse goes.done ++ left
  pub whole : end.status ≡ 0 → left ≡ []
  pub told : TellsForm form goes.later goes.lines end.status (sinking old new)

-- what a form asks for goes on with whatever run from a start has left the devices
pub record AsksAndGoesOn (form : Form) (old new : Seen) (end : Ending) : Type 0 where
  pub commands : List Instruction
  pub asks : AsksFor form old new commands
  pub goes_on : (start : State) (before : List Moment) → IsSome old.disk
      → AreLeft start before (devices_of_seen old) → FormGoesOn form commands start before old new end

-- a command of a form keeps the headline
abbrev pub KeepsTheHeadline : Form → Seen → Seen → Ending → Type 0
KeepsTheHeadline form old new end =
    ((status : ℕ) × (at : ℕ) × (status ≢ 0) × IsUndone status at old new end)
    ⊎ AsksAndGoesOn form old new end
