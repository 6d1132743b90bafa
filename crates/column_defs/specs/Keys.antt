-- Keys, seeds, masks and secret points, over SHA-256 (FIPS 180-4) and ChaCha20 (RFC 8439, with a 64-bit
-- block number and a 64-bit stream number). A keyed pseudorandom mask on each parity symbol makes it a
-- message authentication code of its row (Bowers, Juels and Oprea, HAIL, 2009); that points are secret, and
-- how both are derived, is this project's own.
--
--   file_key master label id j  == 32 bytes: the key of object id at provider j under a label, which is M for
--                                  masks and P for points
--   seed master number id round == 32 bytes: the key of the challenge of a round of audit number to object id
--   stream_word key place       == a number below 2 ^ 32: the word at a place of stream 0 under a key of 32
--                                  bytes
--   stream_symbol key place     == a symbol: four words from a place on, the first one lowest
--   mask_of key row             == a symbol: the mask of a row under the key of the masks
--   masks_from key row n        == n symbols: the masks of n rows from one on
--   mask master id j row        == a symbol: the mask of provider j in a row of object id
--   secret_point master id j    == a symbol: the point of a secondary provider j for object id, whose lowest
--                                  byte is j
--   point_of l master id j      == a symbol: the point of provider j for object id, which has l primary
--                                  providers; j itself for these
use Rattle.std.specs.Prelude.{ℕ, ◌+◌, ◌*◌, ◌^◌, List, ◌∷◌, ◌++◌, take, map, nat_lt, slice_set, if◌then◌else◌}
use Rattle.std.specs.List.{range_with_len}
use Rattle.std.specs.Int.{w32, w64, w128, to_le_bytes, from_le_bytes}
use Rattle.sha2.specs.Sha256.{sha256}
use Rattle.rand_chacha.specs.ChaCha.{word_at, key_of}

-- the digest of the master key, a label of one byte, the object's number and the provider's
unfoldable pub file_key : List ℕ → ℕ → ℕ → ℕ → List ℕ
file_key master label id j = sha256 (master ++ label ∷ to_le_bytes w64 id ++ to_le_bytes w32 j)

-- the digest of the master key, the letter C (67), the audit's number, the object's and the round's
unfoldable pub seed : List ℕ → ℕ → ℕ → ℕ → List ℕ
seed master number id round =
    sha256 (master ++ 67 ∷ to_le_bytes w64 number ++ to_le_bytes w64 id ++ to_le_bytes w32 round)

-- the word at a place of stream 0; ChaCha20 has ten double rounds
abbrev pub stream_word : List ℕ → ℕ → ℕ
stream_word key place = word_at 10 (key_of key) 0 place

-- the symbol of four words of stream 0, the first word lowest
unfoldable pub stream_symbol : List ℕ → ℕ → ℕ
stream_symbol key place =
    stream_word key place + stream_word key (place + 1) * 2 ^ 32
    + stream_word key (place + 2) * 2 ^ 64 + stream_word key (place + 3) * 2 ^ 96

-- the mask of a row under the key of the masks: the words 4 row to 4 row + 3
abbrev pub mask_of : List ℕ → ℕ → ℕ
mask_of key row = stream_symbol key (4 * row)

-- the masks of rows from one on, under the key of the masks
abbrev pub masks_from : List ℕ → ℕ → ℕ → List ℕ
masks_from key row n = map (mask_of key) (range_with_len row n)

-- the mask of a provider in a row of an object, under its key with the label M (77)
abbrev pub mask : List ℕ → ℕ → ℕ → ℕ → ℕ
mask master id j row = mask_of (file_key master 77 id j) row

-- the secret point of a secondary provider: the first 16 bytes of its key with the label P (80), the first
-- one replaced by its number
unfoldable pub secret_point : List ℕ → ℕ → ℕ → ℕ
secret_point master id j = from_le_bytes w128 (slice_set (take 16 (file_key master 80 id j)) 0 j)

-- the point of a provider in the dispersal code, of which the first l are primary ones
abbrev pub point_of : ℕ → List ℕ → ℕ → ℕ → ℕ
point_of l master id j = if nat_lt j l then j else secret_point master id j
