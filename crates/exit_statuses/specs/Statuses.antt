-- What the program ends with, where it does not end well.
use Rattle.std.specs.Prelude.{ℕ, List, [], ◌∷◌}

-- in ascending order: 2 is a faulty command line, 3 to 26 are refusals and faults of devices, 70 is want of
-- memory; none is 0, 1 or 5
abbrev pub statuses : List ℕ
statuses = 2 ∷ 3 ∷ 4 ∷ 6 ∷ 7 ∷ 8 ∷ 9 ∷ 10 ∷ 11 ∷ 12 ∷ 13 ∷ 14 ∷ 15 ∷ 16 ∷ 17 ∷ 18 ∷ 19 ∷ 20 ∷ 21 ∷ 22 ∷ 23 ∷ 24 ∷ 25 ∷ 26 ∷ 70 ∷ []
