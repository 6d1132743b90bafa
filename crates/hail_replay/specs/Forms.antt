-- The words of the two commands that carry a schedule out.
--
--   IsReplayForm words        == the one word is `replay`
--   IsTrialForm words number  == the words are `trial` and a number word below 2 ^ 64
--   IsFormOf words form       == the words are those of this form
use Rattle.std.specs.Prelude.{◌≡◌, ℕ, ◌<◌, ◌^◌, List, [], ◌∷◌, codes, String}
use Rattle.std.specs.String.{string_bytes}
use Rattle.std.specs.declared.alloc.Global.{Global}
use Rattle.command_defs.specs.Forms.{IsBareForm}
use Rattle.command_defs.specs.Words.{IsNumberWord}
use Rattle.hail_replay.specs.declared.forms.Form.{Form}
use Rattle.hail_replay.specs.declared.forms.Form.TheVariants as form

-- `replay`
abbrev pub IsReplayForm : List (String Global) → Type 0
IsReplayForm words = IsBareForm (codes "replay") words

-- `trial` and a number
abbrev pub IsTrialForm : List (String Global) → ℕ → Type 0
IsTrialForm (first ∷ second ∷ []) number =
    (string_bytes first ≡ codes "trial") × IsNumberWord (string_bytes second) number × (number < 2 ^ 64)
IsTrialForm words number = ⊥

-- the words of a form
abbrev pub IsFormOf : List (String Global) → Form → Type 0
IsFormOf words form.Replay = IsReplayForm words
IsFormOf words (form.Trial number) = IsTrialForm words number
