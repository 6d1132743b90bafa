-- Blocks that are asked for ahead.
--
--   BlocksAhead                       == the stripes of an object that are asked for, from the first that is
--                                        still to be given, and the answers that came, in their order
--   no_blocks                         == none is asked for
--   due_of b                          == how many answers are still to come
--   ahead_left b                      == how many answers are still to be given, and how many to come
--   HasCome old new                   == one more answer came
--   IsAhead object b                  == some block of the object is asked for
--   IsAheadOf size object stripe b    == this block is
use Rattle.std.specs.Prelude.{◌≡◌, ℕ, ◌+◌, ◌-◌, ◌<◌, ◌≤◌, List, [], length}

-- the stripes of an object from `first` to `asked`, and the answers that came
pub record BlocksAhead : Type 0 where
  pub object : ℕ
  pub size : ℕ
  pub first : ℕ
  pub asked : ℕ
  pub answers : List (List ℕ)

-- none is asked for
abbrev pub no_blocks : BlocksAhead
no_blocks = record { object = 0; size = 0; first = 0; asked = 0; answers = [] }

-- how many answers are still to come
abbrev pub due_of : BlocksAhead → ℕ
due_of b = b.asked - b.first - length b.answers

-- how many answers are still to be given, and how many to come
abbrev pub ahead_left : BlocksAhead → ℕ
ahead_left b = b.asked - b.first + due_of b

-- one more answer came
pub record HasCome (old new : BlocksAhead) : Type 0 where
  pub first : new.first ≡ old.first
  pub asked : new.asked ≡ old.asked
  pub due : due_of new + 1 ≡ due_of old

-- some block of an object is asked for, and not yet given
pub record IsAhead (object : ℕ) (b : BlocksAhead) : Type 0 where
  pub object_is : object ≡ b.object
  pub some : b.first < b.asked

-- this block is asked for, and not yet given
pub record IsAheadOf (size object stripe : ℕ) (b : BlocksAhead) : Type 0 where
  pub object_is : object ≡ b.object
  pub size_is : size ≡ b.size
  pub from : b.first ≤ stripe
  pub to : stripe < b.asked
