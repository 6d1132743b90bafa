-- Which providers the events of a run damage, by name alone.
--
--   IsAmong ps event        == the provider whose symbols or blocks the event would change is among these; of
--                              other events nothing is asked
--   DamagesOnly ps ms       == so it is of each of these moments, whatever came of it
--   AsksDamageOf ps commands  == so it is of each of these commands
use Rattle.std.specs.Prelude.{ℕ, List, [], ◌∷◌}
use Rattle.algebra_laws.specs.Lists.{In}
use Rattle.machine_defs.specs.Events.{Event, Alter, Lose}
use Rattle.machine_defs.specs.Runs.{Moment}
use Rattle.machine_defs.specs.Transcripts.{Instruction, Once, RunJob}

-- the provider that an alter or a lose names is among these
abbrev pub IsAmong : List ℕ → Event → Type 0
IsAmong ps (Alter provider object stripe place symbol) = In provider ps
IsAmong ps (Lose provider object stripe) = In provider ps
IsAmong ps event = Unit {0}

-- each alter and lose of these moments names one of these providers
abbrev pub DamagesOnly : List ℕ → List Moment → Type 0
DamagesOnly ps [] = Unit {0}
DamagesOnly ps (m ∷ ms) = IsAmong ps m.event × DamagesOnly ps ms

-- each alter and lose of these commands names one of these providers
abbrev pub AsksDamageOf : List ℕ → List Instruction → Type 0
AsksDamageOf ps [] = Unit {0}
AsksDamageOf ps (Once event ∷ cs) = IsAmong ps event × AsksDamageOf ps cs
AsksDamageOf ps (RunJob job ∷ cs) = AsksDamageOf ps cs
