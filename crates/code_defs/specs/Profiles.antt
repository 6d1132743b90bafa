-- The five profiles of the server code (Bowers, Juels and Oprea, HAIL, 2009). The sizes are this project's
-- own.
--
--   profiles          == the table, in the order of their numbers from 0 on
--   all_profiles      == how many there are
--   profile_of number == the profile of a number
--   is_unknown named  == a number is named, and no profile has it
use Rattle.std.specs.Prelude.{ℕ, zero, suc, Bool, false, List, [], ◌∷◌, Option, Some, None, nat_le}

-- a server code: blocks of size symbols, of which keep are kept, and in which fix wrong ones are corrected
pub record Profile : Type 0 where
  pub size : ℕ
  pub keep : ℕ
  pub fix : ℕ

-- the table of profiles, by their numbers 0 to 4
abbrev pub profiles : List Profile
profiles =
    record { size = 6; keep = 2; fix = 2 }
    ∷ record { size = 16; keep = 8; fix = 4 }
    ∷ record { size = 32; keep = 24; fix = 4 }
    ∷ record { size = 64; keep = 48; fix = 8 }
    ∷ record { size = 128; keep = 96; fix = 16 }
    ∷ []

-- how many profiles there are, which is the length of the table
abbrev pub all_profiles : ℕ
all_profiles = 5

-- the row of a table at a place; its last row at a place behind that
abbrev pub row_or_last : List Profile → ℕ → Profile
row_or_last [] place = record { size = 0; keep = 0; fix = 0 }
row_or_last (row ∷ []) place = row
row_or_last (row ∷ next ∷ rows) zero = row
row_or_last (row ∷ next ∷ rows) (suc place) = row_or_last (next ∷ rows) place

-- The profile of a number. A number that no profile has gives the last row; find_profile refuses it.
abbrev pub profile_of : ℕ → Profile
profile_of number = row_or_last profiles number

-- a number is named, and no profile has it
abbrev pub is_unknown : Option ℕ → Bool
is_unknown None = false
is_unknown (Some number) = nat_le all_profiles number
