-- Providers that a list names.
--
--   is_among ps j  == the list names provider j, as a test
use Rattle.std.specs.Prelude.{ℕ, ◌==◌, ◌||◌, Bool, false, List, [], ◌∷◌}

-- the list names provider j
abbrev pub is_among : List ℕ → ℕ → Bool
is_among [] j = false
is_among (p ∷ ps) j = (j == p) || is_among ps j
