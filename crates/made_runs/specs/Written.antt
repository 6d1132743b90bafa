-- What instructions write as commands of a schedule.
--
--   is_whole i           == the moments of an instruction are those of one command
--   schedule_of is       == the commands of instructions
--   lines_made start is  == the lines of their moments
use Rattle.std.specs.Prelude.{ℕ, ◌&&◌, Bool, true, false, not, List, [], ◌∷◌, ◌++◌}
use Rattle.made_runs.specs.Words.{Step, Stop, Reopen, Outcome, More, lines_of, Moment, State}
use Rattle.machine_defs.specs.Transcripts as transcripts
use Rattle.made_runs.specs.Turns.{Turn, is_more}
use Rattle.made_runs.specs.Sweeps.{Sweep, Finds, Tells}
use Rattle.made_runs.specs.Instructions.{Instruction, Turned, Turns, Swept, Sweeps, Fails, Begins, Reopens, Stops, Comes, done, run_of}

-- turns all answer more
abbrev pub all_more : List Turn → Bool
all_more [] = true
all_more (turn ∷ turns) = is_more turn && all_more turns

-- what runs alone ends so
abbrev pub is_end : Sweep → Bool
is_end (Finds stripes symbols blocks) = true
is_end (Tells before after) = true
is_end sweep = false

-- it ends in none of these
abbrev pub none_ends : List Sweep → Bool
none_ends [] = true
none_ends (sweep ∷ sweeps) = not (is_end sweep) && none_ends sweeps

-- the moments of an instruction are those of one command
abbrev pub is_whole : Instruction → Bool
is_whole (Turns n []) = false
is_whole (Turns n (turn ∷ turns)) = not (is_more turn) && all_more turns
is_whole (Sweeps n []) = false
is_whole (Sweeps n (sweep ∷ sweeps)) = is_end sweep && none_ends sweeps
is_whole i = true

-- so it is of each of these
abbrev pub are_whole : List Instruction → Bool
are_whole [] = true
are_whole (i ∷ is) = is_whole i && are_whole is

-- the command of an instruction
abbrev pub commanded : Instruction → transcripts.Instruction
commanded (Turned n turn) = transcripts.Once (Step n)
commanded (Turns n turns) = transcripts.RunJob n
commanded (Swept n sweep) = transcripts.Once (Step n)
commanded (Sweeps n sweeps) = transcripts.RunJob n
commanded (Fails n) = transcripts.Once (Step n)
commanded (Begins event) = transcripts.Once event
commanded Reopens = transcripts.Once Reopen
commanded (Stops picks) = transcripts.Once (Stop picks)
commanded (Comes event outcome change) = transcripts.Once event

-- the commands of instructions
abbrev pub schedule_of : List Instruction → List transcripts.Instruction
schedule_of [] = []
schedule_of (i ∷ is) = commanded i ∷ schedule_of is

-- what came of the newest of some moments
abbrev pub newest_outcome : List Moment → Outcome
newest_outcome [] = More
newest_outcome (m ∷ ms) = m.outcome

-- the lines of instructions
abbrev pub lines_made : State → List Instruction → List ℕ
lines_made start [] = []
lines_made start (i ∷ is) =
    lines_made start is ++ lines_of (newest_outcome (done start (run_of start is) i))
