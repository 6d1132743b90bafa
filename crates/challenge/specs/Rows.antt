-- The words of ChaCha20 (RFC 8439) that a challenge is drawn from.
--
--   at_word key place             == the generator of stream 0 under a key, at a word
--   next_number g                 == a number below 2 ^ 64: the next two words, the low one first
--   next_rows g rows k            == the row that the k-th such number falls on, below rows
--   AreRows seed rows picks drawn == the first of the rows drawn are those of the picks
--   AreBelow rows picks drawn     == they are below the number of rows
use Rattle.std.specs.Prelude.{◌≡◌, ◌<◌, ℕ, ◌+◌, ◌*◌, ◌%◌, ◌^◌, List, slice_index}
use Rattle.rand_chacha.specs.ChaCha.{ChaCha, word_at, of_seed}
use Rattle.column_defs.specs.Generator.{moved_on}
use Rattle.column_defs.specs.Challenges.{picked_row}

-- the generator under a key, at a word
abbrev pub at_word : List ℕ → ℕ → ChaCha
at_word key place = record (of_seed key) { word_pos = place }

-- the number of the two words at the generator's place, the low one first
abbrev pub next_number : ChaCha → ℕ
next_number g = word_at 10 g.key g.stream g.word_pos + word_at 10 g.key g.stream (g.word_pos + 1) * 2 ^ 32

-- the row that the k-th number from here on falls on
abbrev pub next_rows : ChaCha → ℕ → ℕ → ℕ
next_rows g rows k = next_number (moved_on g (2 * k)) % rows

-- the first rows are those of the picks
abbrev pub AreRows : List ℕ → ℕ → ℕ → List ℕ → Type 0
AreRows seed rows picks drawn = (k : ℕ) → k < picks → slice_index drawn k ≡ picked_row seed rows k

-- the first rows are rows of the file
abbrev pub AreBelow : ℕ → ℕ → List ℕ → Type 0
AreBelow rows picks drawn = (k : ℕ) → k < picks → slice_index drawn k < rows
