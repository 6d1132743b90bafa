-- Outcomes, the newest first, that a text is read as.
--
--   lines_of_all outcomes         == what these outcomes write
--   AskForOneLine commands        == each command writes one line
--   EndsAs commands ms outcomes   == moments carry out the commands, which end with these outcomes, as many
--                                    as commands
use Rattle.std.specs.Prelude.{◌≡◌, ℕ, List, [], ◌∷◌, ◌++◌}
use Rattle.machine_defs.specs.Events.{Outcome}
use Rattle.machine_defs.specs.Lines.{lines_of}
use Rattle.machine_defs.specs.Runs.{Moment}
use Rattle.machine_defs.specs.Transcripts.{Instruction, Once, RunJob, RunsToEnd}
use Rattle.line_laws.specs.Told.{AsksForOneLine}

-- what outcomes write
abbrev pub lines_of_all : List Outcome → List ℕ
lines_of_all [] = []
lines_of_all (r ∷ rs) = lines_of_all rs ++ lines_of r

-- each command writes one line
abbrev pub AskForOneLine : List Instruction → Type 0
AskForOneLine [] = Unit {0}
AskForOneLine (Once event ∷ commands) = AsksForOneLine event × AskForOneLine commands
AskForOneLine (RunJob job ∷ commands) = AskForOneLine commands

-- moments carry out commands, which end with these outcomes
abbrev pub EndsAs : List Instruction → List Moment → List Outcome → Type 0
EndsAs [] ms [] = ms ≡ []
EndsAs (Once event ∷ commands) ms (r ∷ rs) =
    (m : Moment) × (older : List Moment) × (ms ≡ m ∷ older) × (m.event ≡ event) × (m.outcome ≡ r)
    × EndsAs commands older rs
EndsAs (RunJob job ∷ commands) ms (r ∷ rs) =
    (m : Moment) × (steps : List Moment) × (older : List Moment) × (ms ≡ m ∷ (steps ++ older))
    × RunsToEnd job m steps × (m.outcome ≡ r) × EndsAs commands older rs
EndsAs commands ms outcomes = ⊥
