-- What a word of a command spells.
--
--   IsNumberWord text number   == the text spells the number
--   IsSymbolWord text symbol   == the text spells the symbol, or that it is absent
--   AreSymbolWords words seen  == each word spells the symbol at its place
use Rattle.std.specs.Prelude.{◌≡◌, ℕ, ◌^◌, ◌<◌, List, [], ◌∷◌, length, slice_index, codes, Option, None, Some, String}
use Rattle.std.specs.Str.Parse.{IsNumeral, digits_value}
use Rattle.std.specs.String.{string_bytes}
use Rattle.std.specs.declared.alloc.Global.{Global}

-- decimal digits, without a leading zero but in `0` itself, of a number below 2 ^ 128
pub record IsNumberWord (text : List ℕ) (number : ℕ) : Type 0 where
  pub numeral : IsNumeral 10 text
  pub leading : slice_index text 0 ≡ 48 → length text ≡ 1
  pub value : digits_value 10 text ≡ number
  pub small : number < 2 ^ 128

-- a number word, or `-` for an absent symbol
abbrev pub IsSymbolWord : List ℕ → Option ℕ → Type 0
IsSymbolWord text None = text ≡ codes "-"
IsSymbolWord text (Some symbol) = IsNumberWord text symbol

-- each word spells the symbol at its place
abbrev pub AreSymbolWords : List (String Global) → List (Option ℕ) → Type 0
AreSymbolWords [] [] = Unit {0}
AreSymbolWords (word ∷ words) (symbol ∷ symbols) =
    IsSymbolWord (string_bytes word) symbol × AreSymbolWords words symbols
AreSymbolWords [] (symbol ∷ symbols) = ⊥
AreSymbolWords (word ∷ words) [] = ⊥
