-- A file that is put, put again under its name, and dropped, with a list of the names behind each.
--
--   name, byte, other      == a name, and two files of one byte
--   first_commands, put_commands, commands
--                          == what is asked for up to the end of the first put, of the second, and in all, the
--                             newest first
--   first_outcomes, put_outcomes, outcomes
--                          == how it ends
--   first, second, instructions  == how the first put goes, the second with it, and all
--   moments                == the moments of it, over a store that was set up
--   again_commands, again_outcomes
--                          == the second put and the list behind it
--   PutsAgain              == moments of these behind those of the first put
--   told_file              == the file of the second put
use Rattle.std.specs.Prelude.{ℕ, List, [], ◌∷◌, ◌++◌}
use Rattle.record_defs.specs.Table.{File}
use Rattle.machine_defs.specs.Jobs.{PutJob, DropJob}
use Rattle.machine_defs.specs.Answers.{Put, Dropped}
use Rattle.machine_defs.specs.Events.{Begin, Reopen, Names, Outcome, Opened, Begun, Ended, Listed}
use Rattle.machine_defs.specs.Examples.{set_up}
use Rattle.machine_defs.specs.Runs.{Moment, IsRun}
use Rattle.machine_defs.specs.States.{State}
use Rattle.machine_defs.specs.Transcripts as transcripts
use Rattle.machine_defs.specs.Transcripts.{Once, RunJob}
use Rattle.made_runs.specs.Turns.{Goes, Gives}
use Rattle.made_runs.specs.Instructions.{Instruction, Turns, Begins, Reopens, Comes, run_of}
use Rattle.run_laws.specs.Stories.{Stored}
use Rattle.effect_laws.specs.Puts.{PutsOnly, NoDropBegan}

-- a name
abbrev pub name : List ℕ
name = 97 ∷ []

-- a file of one byte
abbrev pub byte : List ℕ
byte = 111 ∷ []

-- and another
abbrev pub other : List ℕ
other = 112 ∷ []

-- the file of the second put
abbrev pub told_file : File
told_file = record { name = name; id = 2; size = 1; profile = 0 }

-- what is asked for up to the end of the first put, and how it ends
abbrev pub first_commands : List transcripts.Instruction
first_commands = RunJob 1 ∷ Once (Begin (PutJob name byte)) ∷ Once Reopen ∷ []

abbrev pub first_outcomes : List Outcome
first_outcomes = Ended Put ∷ Begun 1 ∷ Opened ∷ []

-- the same up to the end of the second
abbrev pub put_commands : List transcripts.Instruction
put_commands = RunJob 2 ∷ Once (Begin (PutJob name other)) ∷ first_commands

abbrev pub put_outcomes : List Outcome
put_outcomes = Ended Put ∷ Begun 2 ∷ first_outcomes

-- all that is asked for, and how it ends
abbrev pub commands : List transcripts.Instruction
commands = Once Names ∷ RunJob 3 ∷ Once (Begin (DropJob name)) ∷ Once Names ∷ put_commands

abbrev pub outcomes : List Outcome
outcomes = Listed [] ∷ Ended Dropped ∷ Begun 3 ∷ Listed (told_file ∷ []) ∷ put_outcomes

-- the second put and the list behind it, and how they end
abbrev pub again_commands : List transcripts.Instruction
again_commands = Once Names ∷ RunJob 2 ∷ Once (Begin (PutJob name other)) ∷ []

abbrev pub again_outcomes : List Outcome
again_outcomes = Listed (told_file ∷ []) ∷ Ended Put ∷ Begun 2 ∷ []

-- a list of the names changes nothing
abbrev pub same : State → State
same w = w

-- how the first put goes
abbrev pub first : List Instruction
first = Turns 1 (Gives Put ∷ Goes 12 ∷ []) ∷ Begins (Begin (PutJob name byte)) ∷ Reopens ∷ []

-- then the second, and a list
abbrev pub second : List Instruction
second = Comes Names (Listed (told_file ∷ [])) same ∷ Turns 2 (Gives Put ∷ Goes 16 ∷ [])
    ∷ Begins (Begin (PutJob name other)) ∷ first

-- then the drop, and a list
abbrev pub instructions : List Instruction
instructions = Comes Names (Listed []) same ∷ Turns 3 (Gives Dropped ∷ Goes 8 ∷ [])
    ∷ Begins (Begin (DropJob name)) ∷ second

-- the moments
abbrev pub moments : List Moment
moments = run_of set_up instructions

-- moments of the second put and the list behind those of the first put
pub record PutsAgain : Type 0 where
  pub later : List Moment
  pub older : List Moment
  pub run : IsRun 8 set_up (later ++ older)
  pub stored : Stored older name byte
  pub puts : PutsOnly name other later
  pub drops : NoDropBegan name later
