-- What a round of an audit comes to, and when a provider is right in it.
--
--   sums_of counts undecided      == the sums that these counters stand for
--   answer_of heard j             == the answer of provider j among those of all; None where there is none
--   is_right o bytes c j answer   == the answer is present and is the right one of provider j
--   wrong_answers o bytes c heard == how many of all n answers are not right
--   HasFewWrong o bytes c heard   == a round over blocks of the object's size in which at most b of all n
--                                    answers are not right
--   own_symbol o bytes j size row == what stands in a row of the blocks that provider j is to hold
--   DiffersOnce o bytes j c held  == exactly one pick falls on a symbol of the blocks held that is not the
--                                    provider's own
--   count_of_provider s j         == how often provider j was counted
use Rattle.std.specs.Prelude.{◌≡◌, ◌≢◌, ◌<◌, ◌≤◌, ℕ, Bool, false, List, length, not, slice_index, slice_index_or, Option, None, Some}
use Rattle.hail_field.specs.Shape.{IsShape}
use Rattle.code_defs.specs.Polynomials.{is_seen}
use Rattle.code_defs.specs.Points.{upto}
use Rattle.column_defs.specs.Objects.{Object}
use Rattle.column_defs.specs.Columns.{columns}
use Rattle.column_defs.specs.Forgeries.{count_of}
use Rattle.column_defs.specs.Challenges.{Challenge, picked_row, held_symbol, right_answer}
use Rattle.column_defs.specs.Verdicts.{Sums}
use Rattle.record_codec.specs.declared.counts.Counts.{Counts}
use Rattle.record_codec.specs.Entries.{counted}

-- the sums that counters stand for
abbrev pub sums_of : Counts → ℕ → Sums
sums_of counts undecided = record { counts = counted counts; undecided = undecided }

-- the answer of a provider among those of all
abbrev pub answer_of : List (Option ℕ) → ℕ → Option ℕ
answer_of heard j = slice_index_or heard j None

-- an answer is present and is the right one of a provider
abbrev pub is_right : Object → List ℕ → Challenge → ℕ → Option ℕ → Bool
is_right o bytes c j None = false
is_right o bytes c j (Some x) = is_seen x (right_answer o bytes j c)

-- how many of all answers are not right
abbrev pub wrong_answers : Object → List ℕ → Challenge → List (Option ℕ) → ℕ
wrong_answers o bytes c heard =
    count_of (λ j. not (is_right o bytes c j (answer_of heard j))) (upto o.shape.n)

-- a round over blocks of the object's size, with an answer or its absence for each provider, of which at
-- most b are not right
pub record HasFewWrong (o : Object) (bytes : List ℕ) (c : Challenge) (heard : List (Option ℕ)) : Type 0 where
  pub shape : IsShape o.shape.n o.shape.l o.shape.b
  pub some_size : 1 ≤ c.size
  pub size : c.size ≡ o.profile.size
  pub all_heard : length heard ≡ o.shape.n
  pub few : wrong_answers o bytes c heard ≤ o.shape.b

-- what stands in a row of the blocks that a provider is to hold
abbrev pub own_symbol : Object → List ℕ → ℕ → ℕ → ℕ → Option ℕ
own_symbol o bytes j size row = held_symbol size (λ stripe. Some (columns o bytes j stripe)) row

-- exactly one pick falls on a symbol of the blocks held that is not the provider's own
pub record DiffersOnce (o : Object) (bytes : List ℕ) (j : ℕ) (c : Challenge)
    (held : ℕ → Option (List ℕ)) : Type 0 where
  pub pick : ℕ
  pub picked : pick < c.picks
  pub differs : held_symbol c.size held (picked_row c.seed c.rows pick) ≢ own_symbol o bytes j c.size
      (picked_row c.seed c.rows pick)
  pub others : (k : ℕ) → k < c.picks → k ≢ pick
      → held_symbol c.size held (picked_row c.seed c.rows k)
      ≡ own_symbol o bytes j c.size (picked_row c.seed c.rows k)

-- how often a provider was counted
abbrev pub count_of_provider : Sums → ℕ → ℕ
count_of_provider s j = slice_index s.counts j
