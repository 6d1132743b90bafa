-- What providers hold, and how it changes. A symbol is a number below 2^128, and a block a list of symbols.
--
--   Held                                     == a map from object and stripe to a block, where one is held
--   with_block object stripe block held      == what is held after this one block is set
--   without_block object stripe held         == what is held after this one block is lost
--   without_object object held               == what is held after all blocks of an object are gone
--   with_symbol object stripe place s held   == what is held after the symbol s is put at a place of one
--                                          block
--   HasPlace block place                     == a block is held, and is longer than the place
--   HasSize size block                       == a block is held, and is that long
--   sized size block                         == the held block if it is that long
--   LosesPart object old new                 == any blocks of the object are gone, and all else stays
--   Provider                                 == what is seen of a provider: what it holds, where it tells
--                                          it; its count of failed stores, that of other failed calls, and
--                                          that of fetches
use Rattle.std.specs.Prelude.{◌≡◌, ℕ, ◌<◌, ◌==◌, ◌&&◌, ◌⊎◌, List, length, slice_set, Option, None, Some, IsSomeAnd, if◌then◌else◌}
use Rattle.std.specs.Option.{option_map}

-- the blocks that a provider holds: of an object and a stripe a list of symbols, or none
abbrev pub Held : Type 0
Held = ℕ → ℕ → Option (List ℕ)

-- this one block is set
abbrev pub with_block : ℕ → ℕ → List ℕ → Held → Held
with_block object stripe block held o s = if (o == object) && (s == stripe) then Some block else held o s

-- this one block is lost
abbrev pub without_block : ℕ → ℕ → Held → Held
without_block object stripe held o s = if (o == object) && (s == stripe) then None else held o s

-- all blocks of an object are gone
abbrev pub without_object : ℕ → Held → Held
without_object object held o s = if o == object then None else held o s

-- one symbol of one block is replaced
abbrev pub with_symbol : ℕ → ℕ → ℕ → ℕ → Held → Held
with_symbol object stripe place symbol held o s =
    if (o == object) && (s == stripe) then option_map (λ block. slice_set block place symbol) (held o s)
    else held o s

-- a block is held and has this place
abbrev pub HasPlace : Option (List ℕ) → ℕ → Type 0
HasPlace block place = IsSomeAnd block (λ symbols. place < length symbols)

-- a block is held and has so many symbols
abbrev pub HasSize : ℕ → Option (List ℕ) → Type 0
HasSize size block = IsSomeAnd block (λ symbols. length symbols ≡ size)

-- the held block, if it has so many symbols
abbrev pub sized : ℕ → Option (List ℕ) → Option (List ℕ)
sized size None = None
sized size (Some block) = if length block == size then Some block else None

-- any part of an object's blocks is gone
abbrev pub LosesPart : ℕ → Held → Held → Type 0
LosesPart object old new = (o s : ℕ) → (new o s ≡ old o s) ⊎ ((o ≡ object) × (new o s ≡ None))

-- what is seen of a provider
pub record Provider : Type 0 where
  pub held : Option Held
  pub store_faults : ℕ
  pub other_faults : ℕ
  pub fetches : ℕ
