-- Challenges, honest and right answers to them, and the sums of masks. One aggregated symbol answers for
-- many rows (Bowers, Juels and Oprea, HAIL, 2009); the weights are this project's own.
--
--   c.seed, .rows, .size, .picks            == a challenge: its key, how many rows and symbols a block there
--                                              are, and how many rows it picks
--   challenge_of o bytes picks number round == the challenge of a round of audit number to a file of so many
--                                              bytes
--   alpha seed                              == the weight of a challenge: the first symbol of its stream, and
--                                              1 in place of 0
--   picked_row seed rows k                  == the row that pick k falls on, below rows
--   sum_over c at k                         == the sum over the first k picks of alpha ^ (1 + pick) times
--                                              what stands at the picked row
--   combined c at                           == the same over all picks
--   held_symbol size held row               == what stands in a row of the blocks held, by stripe; None where
--                                              the block is absent or not size long
--   all_held c held k                       == there is a symbol in the row of each of the first k picks
--   honest_answer c held                    == the combined symbols held in the picked rows, and None where
--                                              one is not there
--   right_answer o bytes j c                == the honest answer of what provider j is to hold of a file
--   mask_sum_of key c, mask_sum o j c       == the combined masks of the picked rows, under a key of masks
--                                              and of provider j
--   bare_answer o c j answer                == an answer of provider j with its mask sum taken off, which a
--                                              primary one has none of
--   bare_answers o c j answers              == the same for the answers of the providers from j on
use Rattle.std.specs.Prelude.{ℕ, zero, suc, ◌+◌, ◌*◌, ◌/◌, ◌%◌, ◌^◌, ◌==◌, ◌&&◌, Bool, true, List, [], ◌∷◌, length, slice_get, is_some, unwrap_or, Option, None, Some, if◌then◌else◌}
use Rattle.std.specs.Option.{option_map}
use Rattle.hail_field.specs.Nim.{nim_add, nim_mul, nim_pow}
use Rattle.column_defs.specs.Keys.{file_key, mask_of, seed, stream_word, stream_symbol}
use Rattle.column_defs.specs.Objects.{Object, stripes, is_primary}
use Rattle.column_defs.specs.Columns.{columns}

-- a challenge: its key, how many rows and symbols a block there are, and how many rows it picks
pub record Challenge : Type 0 where
  pub seed : List ℕ
  pub rows : ℕ
  pub size : ℕ
  pub picks : ℕ

-- the challenge of a round of an audit to a file of so many bytes
abbrev pub challenge_of : Object → ℕ → ℕ → ℕ → ℕ → Challenge
challenge_of o bytes picks number round = record {
  seed = seed o.master number o.id round;
  rows = stripes o bytes * o.profile.size;
  size = o.profile.size;
  picks = picks;
}

-- the weight of a challenge: the first symbol of its stream, and 1 in place of 0
unfoldable pub alpha : List ℕ → ℕ
alpha key = if stream_symbol key 0 == 0 then 1 else stream_symbol key 0

-- the row of pick k: the number of two words, the low one at 4 + 2 k, modulo the number of rows
unfoldable pub picked_row : List ℕ → ℕ → ℕ → ℕ
picked_row key rows k = (stream_word key (4 + 2 * k) + stream_word key (5 + 2 * k) * 2 ^ 32) % rows

-- the sum of alpha ^ (k + 1) times what stands in the row of pick k, over the first picks
unfoldable pub sum_over : Challenge → (ℕ → ℕ) → ℕ → ℕ
sum_over c at zero = 0
sum_over c at (suc k) =
    nim_add (sum_over c at k) (nim_mul (nim_pow (alpha c.seed) (suc k)) (at (picked_row c.seed c.rows k)))

-- what a challenge makes of the symbols of all rows
abbrev pub combined : Challenge → (ℕ → ℕ) → ℕ
combined c at = sum_over c at c.picks

-- the symbol at a place of a block of the size
abbrev pub symbol_at : ℕ → ℕ → Option (List ℕ) → Option ℕ
symbol_at size place None = None
symbol_at size place (Some block) = if length block == size then slice_get block place else None

-- what stands in a row of the blocks held, by stripe: place row % size of stripe row / size
abbrev pub held_symbol : ℕ → (ℕ → Option (List ℕ)) → ℕ → Option ℕ
held_symbol size held row = symbol_at size (row % size) (held (row / size))

-- something stands in the row of each of the first picks
unfoldable pub all_held : Challenge → (ℕ → Option (List ℕ)) → ℕ → Bool
all_held c held zero = true
all_held c held (suc k) = all_held c held k && is_some (held_symbol c.size held (picked_row c.seed c.rows k))

-- the honest answer from the blocks held of an object, by stripe
abbrev pub honest_answer : Challenge → (ℕ → Option (List ℕ)) → Option ℕ
honest_answer c held =
    if all_held c held c.picks
    then Some (combined c (λ row. unwrap_or (held_symbol c.size held row) 0))
    else None

-- the right answer of a provider for a file
abbrev pub right_answer : Object → List ℕ → ℕ → Challenge → Option ℕ
right_answer o bytes j c = honest_answer c (λ stripe. Some (columns o bytes j stripe))

-- the same combination of masks, under the key of the masks
abbrev pub mask_sum_of : List ℕ → Challenge → ℕ
mask_sum_of key c = combined c (mask_of key)

-- the same combination of a provider's masks; 77 is the label M
abbrev pub mask_sum : Object → ℕ → Challenge → ℕ
mask_sum o j c = mask_sum_of (file_key o.master 77 o.id j) c

-- an answer of a provider, with the mask sum taken off that of a secondary one
abbrev pub bare_answer : Object → Challenge → ℕ → Option ℕ → Option ℕ
bare_answer o c j answer =
    if is_primary o j then answer else option_map (λ x. nim_add x (mask_sum o j c)) answer

-- the answers of the providers from one on, with the mask sums taken off
abbrev pub bare_answers : Object → Challenge → ℕ → List (Option ℕ) → List (Option ℕ)
bare_answers o c j [] = []
bare_answers o c j (answer ∷ more) = bare_answer o c j answer ∷ bare_answers o c (j + 1) more
