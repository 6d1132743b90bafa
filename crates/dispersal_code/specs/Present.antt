-- The symbols of a row that are present, each with its point.
--
--   Chosen                     == symbols, each with its point
--   present_points points seen == the points at whose places a symbol is present
--   present_symbols seen       == these symbols
--   room_for n b m             == how many of m present symbols may be wrong, where all but b of n symbols
--                                 are to agree
use Rattle.std.specs.Prelude.{◌≡◌, ◌≤◌, ◌-◌, ℕ, List, [], ◌∷◌, Option, Some, None, length}

-- symbols, each with its point
pub record Chosen : Type 0 where
  pub points : List ℕ
  pub symbols : List ℕ

-- a count of symbols, kept with their points in two arrays of 16 places
pub record HoldsPresent (points symbols : List ℕ) (count : ℕ) : Type 0 where
  pub few : count ≤ 16
  pub points_room : length points ≡ 16
  pub symbols_room : length symbols ≡ 16

-- the points at whose places a symbol is present
unfoldable pub present_points : List ℕ → List (Option ℕ) → List ℕ
present_points [] seen = []
present_points (x ∷ xs) [] = []
present_points (x ∷ xs) (None ∷ seen) = present_points xs seen
present_points (x ∷ xs) (Some s ∷ seen) = x ∷ present_points xs seen

-- the symbols that are present
unfoldable pub present_symbols : List (Option ℕ) → List ℕ
present_symbols [] = []
present_symbols (None ∷ seen) = present_symbols seen
present_symbols (Some s ∷ seen) = s ∷ present_symbols seen

-- how many of m present symbols may be wrong, where all but b of n symbols are to agree
abbrev pub room_for : ℕ → ℕ → ℕ → ℕ
room_for n b m = m - (n - b)
