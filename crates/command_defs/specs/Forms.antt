-- The words of the commands, after the place of the devices.
--
--   Numbers                                     == the seven numbers of `init`, each below 2 ^ 128
--   IsInitForm words numbers                    == the words are `init` and the seven numbers: n, l, b,
--                                                  profile, rounds, picks, tolerance
--   IsPutForm words name, IsGetForm, IsDropForm == the words are the command and a name, whatever it is
--   IsPutAtForm words name profile              == `put`, a name and a number below 256
--   IsListForm words, IsAuditForm, IsRepairForm, IsUpgradeForm, IsScrubForm, IsPackForm
--                                               == the one word is the command
--   Command                                     == a command as plain data
--   IsForm words command                        == the words spell the command
use Rattle.std.specs.Prelude.{◌≡◌, ℕ, ◌<◌, List, [], ◌∷◌, codes, Option, String}
use Rattle.std.specs.String.{string_bytes}
use Rattle.std.specs.declared.alloc.Global.{Global}
use Rattle.command_defs.specs.Words.{IsNumberWord}
use Rattle.command_defs.specs.Row.{IsRowForm}

-- the numbers of a setup, as words spell them
pub record Numbers : Type 0 where
  pub n : ℕ
  pub l : ℕ
  pub b : ℕ
  pub profile : ℕ
  pub rounds : ℕ
  pub picks : ℕ
  pub tolerance : ℕ

-- number words, one for each of the seven numbers
abbrev pub AreNumbers : List (String Global) → Numbers → Type 0
AreNumbers (n ∷ l ∷ b ∷ profile ∷ rounds ∷ picks ∷ tolerance ∷ []) numbers =
    IsNumberWord (string_bytes n) numbers.n × IsNumberWord (string_bytes l) numbers.l
    × IsNumberWord (string_bytes b) numbers.b
    × IsNumberWord (string_bytes profile) numbers.profile × IsNumberWord (string_bytes rounds) numbers.rounds
    × IsNumberWord (string_bytes picks) numbers.picks
    × IsNumberWord (string_bytes tolerance) numbers.tolerance
AreNumbers words numbers = ⊥

-- the words are `init` and seven numbers
abbrev pub IsInitForm : List (String Global) → Numbers → Type 0
IsInitForm [] numbers = ⊥
IsInitForm (command ∷ words) numbers = (string_bytes command ≡ codes "init") × AreNumbers words numbers

-- the words are a command and a name
abbrev pub IsNamedForm : List ℕ → List (String Global) → List ℕ → Type 0
IsNamedForm command (first ∷ second ∷ []) name = (string_bytes first ≡ command) × (string_bytes second ≡ name)
IsNamedForm command words name = ⊥

-- the one word is a command
abbrev pub IsBareForm : List ℕ → List (String Global) → Type 0
IsBareForm command (first ∷ []) = string_bytes first ≡ command
IsBareForm command words = ⊥

-- `put` and a name
abbrev pub IsPutForm : List (String Global) → List ℕ → Type 0
IsPutForm words name = IsNamedForm (codes "put") words name

-- `put`, a name and the number of a profile
abbrev pub IsPutAtForm : List (String Global) → List ℕ → ℕ → Type 0
IsPutAtForm (first ∷ second ∷ third ∷ []) name profile =
    (string_bytes first ≡ codes "put") × (string_bytes second ≡ name)
    × IsNumberWord (string_bytes third) profile × (profile < 256)
IsPutAtForm words name profile = ⊥

-- `get` and a name
abbrev pub IsGetForm : List (String Global) → List ℕ → Type 0
IsGetForm words name = IsNamedForm (codes "get") words name

-- `drop` and a name
abbrev pub IsDropForm : List (String Global) → List ℕ → Type 0
IsDropForm words name = IsNamedForm (codes "drop") words name

-- `list`
abbrev pub IsListForm : List (String Global) → Type 0
IsListForm words = IsBareForm (codes "list") words

-- `audit`
abbrev pub IsAuditForm : List (String Global) → Type 0
IsAuditForm words = IsBareForm (codes "audit") words

-- `repair`
abbrev pub IsRepairForm : List (String Global) → Type 0
IsRepairForm words = IsBareForm (codes "repair") words

-- `upgrade`
abbrev pub IsUpgradeForm : List (String Global) → Type 0
IsUpgradeForm words = IsBareForm (codes "upgrade") words

-- `scrub`
abbrev pub IsScrubForm : List (String Global) → Type 0
IsScrubForm words = IsBareForm (codes "scrub") words

-- `pack`
abbrev pub IsPackForm : List (String Global) → Type 0
IsPackForm words = IsBareForm (codes "pack") words

-- a command
pub data Command : Type 0 where
  RowOf : (n l b : ℕ) (seen : List (Option ℕ)) → Command
  InitWith : (numbers : Numbers) → Command
  PutUnder : (name : List ℕ) → Command
  PutAt : (name : List ℕ) (profile : ℕ) → Command
  GetOf : (name : List ℕ) → Command
  DropOf : (name : List ℕ) → Command
  ListAll : Command
  AuditAll : Command
  RepairAll : Command
  UpgradeJournal : Command
  ScrubAll : Command
  PackJournal : Command

-- the words spell a command
abbrev pub IsForm : List (String Global) → Command → Type 0
IsForm words (RowOf n l b seen) = IsRowForm words n l b seen
IsForm words (InitWith numbers) = IsInitForm words numbers
IsForm words (PutUnder name) = IsPutForm words name
IsForm words (PutAt name profile) = IsPutAtForm words name profile
IsForm words (GetOf name) = IsGetForm words name
IsForm words (DropOf name) = IsDropForm words name
IsForm words ListAll = IsListForm words
IsForm words AuditAll = IsAuditForm words
IsForm words RepairAll = IsRepairForm words
IsForm words UpgradeJournal = IsUpgradeForm words
IsForm words ScrubAll = IsScrubForm words
IsForm words PackJournal = IsPackForm words
