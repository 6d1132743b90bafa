-- The words of the command that serves a provider.
--
--   IsServeForm words number == the words are `serve` and a number word below 16
use Rattle.std.specs.Prelude.{◌≡◌, ℕ, ◌<◌, List, [], ◌∷◌, codes, String}
use Rattle.std.specs.String.{string_bytes}
use Rattle.std.specs.declared.alloc.Global.{Global}
use Rattle.command_defs.specs.Words.{IsNumberWord}

-- `serve` and the number of a provider
abbrev pub IsServeForm : List (String Global) → ℕ → Type 0
IsServeForm (first ∷ second ∷ []) number =
    (string_bytes first ≡ codes "serve") × IsNumberWord (string_bytes second) number × (number < 16)
IsServeForm words number = ⊥
