-- The command `row`: its words, and what it answers.
--
--   IsRowForm words n l b seen        == the words are `row`, the three numbers, and n symbol words
--   OpensRow n l b seen values        == the values at the points 0 to l - 1 of an accepted polynomial
--   AnswersRow n l b seen status sink == the status and the sink are those of an answer to this row
use Rattle.std.specs.Prelude.{◌≡◌, ℕ, List, ◌∷◌, length, codes, Option, String}
use Rattle.std.specs.String.{string_bytes}
use Rattle.std.specs.declared.alloc.Global.{Global}
use Rattle.hail_field.specs.Shape.{IsShape}
use Rattle.code_defs.specs.Points.{upto, values_at}
use Rattle.code_defs.specs.DispersalCode.{Accepts, AcceptsNone}
use Rattle.command_defs.specs.Words.{IsNumberWord, AreSymbolWords}
use Rattle.command_defs.specs.Line.{values_line, no_row_line}
use Rattle.command_defs.specs.Sinking.{Sinking, Refuses, WritesLine, TellsLine}

-- the words are `row`, the three numbers n, l and b, and n symbol words
abbrev pub IsRowForm : List (String Global) → ℕ → ℕ → ℕ → List (Option ℕ) → Type 0
IsRowForm (command ∷ first ∷ second ∷ third ∷ words) n l b seen =
    (string_bytes command ≡ codes "row")
    × IsNumberWord (string_bytes first) n × IsNumberWord (string_bytes second) l
    × IsNumberWord (string_bytes third) b
    × (length words ≡ n) × AreSymbolWords words seen
IsRowForm _ n l b seen = ⊥

-- the values at the points 0 to l - 1 of an accepted polynomial
pub record OpensRow (n l b : ℕ) (seen : List (Option ℕ)) (values : List ℕ) : Type 0 where
  pub polynomial : List ℕ
  pub accepted : Accepts (upto n) seen l b polynomial
  pub values_are : values ≡ values_at (upto l) polynomial

-- the answer to a row, by what stands in it; its points are 0 to n - 1, and an accepted polynomial's line
-- are its values at 0 to l - 1
pub record AnswersRow (n l b : ℕ) (seen : List (Option ℕ)) (status : ℕ) (sink : Sinking) : Type 0 where
  pub no_shape : (IsShape n l b → ⊥) → Refuses 20 status sink
  pub lost : IsShape n l b → AcceptsNone (upto n) seen l b → TellsLine 4 no_row_line status sink
  pub held : IsShape n l b → (p : List ℕ) → Accepts (upto n) seen l b p
      → WritesLine (values_line (values_at (upto l) p)) status sink
