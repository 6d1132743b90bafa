-- What the bytes of a schedule spell.
--
--   lines text                   == the pieces between newlines, where a carriage return directly before a
--                                   newline is dropped
--   IsLine line                  == the line is in the grammar: it is skipped, or spells a command
--   AreLines lines commands      == each line that is not skipped spells the command at its place
--   IsSchedule text commands     == the lines of the text spell the commands, in their order
--   IsFirstBadLine text number   == the line of this number, counted from 1, is outside the grammar, and no
--                                   line before it is
--
-- What stands behind the last newline is a line as well: so the last newline may be missing, and where it
-- stands the line behind it has no words.
use Rattle.std.specs.Prelude.{◌≡◌, ◌⊎◌, ℕ, ◌+◌, ◌==◌, ◌&&◌, List, [], ◌∷◌, ◌++◌, length, slice_index, if◌then◌else◌}
use Rattle.std.specs.List.{AllByRecursion}
use Rattle.machine_defs.specs.Transcripts.{Instruction}
use Rattle.schedule_text.specs.Grammar.{pieces, words, SpellsCommand, IsSkipped}

-- the text without each carriage return directly before a newline
abbrev pub without_returns : List ℕ → List ℕ
without_returns [] = []
without_returns (b ∷ text) =
    if (b == 13) && (slice_index text 0 == 10) then without_returns text else b ∷ without_returns text

-- the lines of a text
abbrev pub lines : List ℕ → List (List ℕ)
lines text = pieces 10 (without_returns text)

-- the line is in the grammar
abbrev pub IsLine : List ℕ → Type 0
IsLine line = IsSkipped (words line) ⊎ ((command : Instruction) × SpellsCommand (words line) command)

-- the lines spell the commands
abbrev pub AreLines : List (List ℕ) → List Instruction → Type 0
AreLines [] commands = commands ≡ []
AreLines (line ∷ others) commands =
    (IsSkipped (words line) × AreLines others commands)
    ⊎ ((first : Instruction) × (more : List Instruction) × (commands ≡ first ∷ more)
    × SpellsCommand (words line) first × AreLines others more)

-- the text spells the commands
abbrev pub IsSchedule : List ℕ → List Instruction → Type 0
IsSchedule text commands = AreLines (lines text) commands

-- the line of this number, counted from 1, is outside the grammar, and each line before it is in it
pub record IsFirstBadLine (text : List ℕ) (number : ℕ) : Type 0 where
  pub before : List (List ℕ)
  pub line : List ℕ
  pub behind : List (List ℕ)
  pub lines_are : lines text ≡ before ++ line ∷ behind
  pub number_is : number ≡ length before + 1
  pub good : AllByRecursion IsLine before
  pub bad : ¬ (IsLine line)
