-- The commands that lines spell, read from left to right as schedule_text reads a line.
use Rattle.std.proofs.Common.{refl, inl, inr, ◌∙◌, ◌≡◌, ℕ, List, [], ◌∷◌, Option, None, Some}
use Rattle.hex.specs.Hex.{decode_pairs}
use Rattle.schedule_text.specs.Reading.{numeral_at, number_word_at, profile_at, bytes_at, put_at, get_at, drop_words_at, begun_at, begin_at, step_at, run_at, alter_at, lose_at, stop_at, apart_at, behind_at, line_at}
use Rattle.schedule_text.proofs.Again.{skipped-line, spelled-line}
use Rattle.schedule_runs.specs.Words.{Instruction, words, AreLines}

-- a line before others
abbrev pub read_before : Option (Option Instruction) → Option (List Instruction) → Option (List Instruction)
read_before (Some (Some command)) (Some commands) = Some (command ∷ commands)
read_before (Some None) others = others
read_before line others = None

-- the commands of lines
unfoldable pub read : List (List ℕ) → Option (List Instruction)
unfolding decode_pairs numeral_at number_word_at profile_at bytes_at put_at get_at drop_words_at begun_at begin_at step_at
    run_at alter_at lose_at stop_at apart_at behind_at line_at
read [] = Some []
read (line ∷ others) = read_before (line_at (words line)) (read others)

-- the lines spell the commands that are read
pub are-lines : (lines : List (List ℕ)) (commands : List Instruction) → read lines ≡ Some commands →
    AreLines lines commands
unfolding read
are-lines [] commands e = (let same : Some [] ≡ Some commands = e in cc)
are-lines (line ∷ others) commands e = by (line_at (words line)) (read others) refl refl e (are-lines others)
  where
    by : (found : Option (Option Instruction)) (rest : Option (List Instruction)) →
        line_at (words line) ≡ found → read others ≡ rest → read_before found rest ≡ Some commands →
        ((more : List Instruction) → read others ≡ Some more → AreLines others more) →
        AreLines (line ∷ others) commands
    by (Some (Some command)) (Some more) f r e are = inr (
      command,
      more,
      (let same : Some (command ∷ more) ≡ Some commands = e in cc),
      spelled-line (words line) command f,
      are more r,
    )
    by (Some None) rest f r e are = inl (skipped-line (words line) f, are commands (r ∙ e))
    by found rest f r e are = absurd (let none : None ≡ Some commands = e in cc)
