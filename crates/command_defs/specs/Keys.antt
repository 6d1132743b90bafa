-- The form in which `init` reads the master key.
--
--   longest_key             == 67: one byte more than the form has, so that a longer source is seen to be
--                              none
--   IsKeyForm text key      == 64 hexadecimal digits of either case that spell the 32 bytes of the key,
--                              then nothing, a newline, or a carriage return and a newline
use Rattle.std.specs.Prelude.{◌≡◌, ◌⊎◌, ℕ, List, [], ◌∷◌, ◌++◌, length, Ok}
use Rattle.std.specs.List.{AllPass}
use Rattle.hex.specs.Hex.{decode_of, is_hex_digit}

-- how many bytes of the source are read for the key
abbrev pub longest_key : ℕ
longest_key = 67

-- what may stand behind the digits
abbrev pub IsLineEnd : List ℕ → Type 0
IsLineEnd behind = (behind ≡ []) ⊎ ((behind ≡ 10 ∷ []) ⊎ (behind ≡ 13 ∷ 10 ∷ []))

-- the key's form
pub record IsKeyForm (text key : List ℕ) : Type 0 where
  pub digits : List ℕ
  pub behind : List ℕ
  pub text_is : text ≡ digits ++ behind
  pub size : length digits ≡ 64
  pub hexadecimal : AllPass is_hex_digit digits
  pub spelled : decode_of digits ≡ Ok key
  pub line_end : IsLineEnd behind
