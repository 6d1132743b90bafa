-- A round of one pick to the small object of column_laws, and what three of its providers answer rightly.
--
--   one_pick master bytes    == the challenge of round 0 of audit 1, which picks one row
--   three_heard master bytes == the right answers of three providers; the fourth is absent
use Rattle.std.specs.Prelude.{ℕ, List, [], ◌∷◌, length, Option, None}
use Rattle.column_defs.specs.Challenges.{Challenge, challenge_of, right_answer}
use Rattle.column_laws.specs.Example.{example}

-- a challenge of one pick
abbrev pub one_pick : List ℕ → List ℕ → Challenge
one_pick master bytes = challenge_of (example master) (length bytes) 1 1 0

-- three right answers
abbrev pub three_heard : List ℕ → List ℕ → List (Option ℕ)
three_heard master bytes =
    right_answer (example master) bytes 0 (one_pick master bytes)
    ∷ right_answer (example master) bytes 1 (one_pick master bytes)
    ∷ right_answer (example master) bytes 2 (one_pick master bytes) ∷ None ∷ []
