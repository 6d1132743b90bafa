-- What a contract sees of a scrub.
--
--   Stage             == no stripe is in work; or these blocks of it are fetched, one of each provider so
--                        far; or it is opened, and has these symbols
--   ScrubView         == a scrub
--   works_in todo     == how many openings are among these actions
--   most_steps n todo == how many steps these actions may come to, over n providers, as each opening may find
--                        a store due on each of them
--   scrub_left v      == the same of all that a scrub has still to do; 0 where it is over
--   next_to_do v      == its next action
--   called_by action  == the provider that an action calls
use Rattle.std.specs.Prelude.{ℕ, ◌+◌, ◌*◌, Bool, true, false, List, length, count_by, Option, None, Some, slice_get}
use Rattle.column_defs.specs.Objects.{Object}
use Rattle.column_defs.specs.Opened.{SeenBlock}
use Rattle.machine_defs.specs.Actions.{Action, Store, Fetch, Work}

-- where a scrub is on its stripes
pub data Stage : Type 0 where
  Between : Stage
  Fetched : (object stripe : ℕ) (seen : List SeenBlock) → Stage
  Opened : (object stripe : ℕ) (rows : List ℕ) → Stage

-- a scrub
pub record ScrubView : Type 0 where
  pub todo : List Action  -- what it has still to do; the stores of a stripe are in it once it is opened
  pub providers : ℕ  -- of each of its files
  pub objects : List Object  -- of its files with a stripe
  pub at : Stage
  pub stripes : ℕ  -- that were opened
  pub symbols : List ℕ  -- of each provider, how many differed
  pub blocks : List ℕ  -- of each provider, how many had a symbol that differed

-- an action opens a stripe
abbrev pub is_opening : Action → Bool
is_opening (Work object stripe) = true
is_opening action = false

-- how many openings are among these actions
abbrev pub works_in : List Action → ℕ
works_in todo = count_by is_opening todo

-- how many steps these actions may come to
abbrev pub most_steps : ℕ → List Action → ℕ
most_steps n todo = length todo + n * works_in todo

-- how many steps a scrub may still make
abbrev pub scrub_left : ScrubView → ℕ
scrub_left v = most_steps v.providers v.todo

-- the next action of a scrub
abbrev pub next_to_do : ScrubView → Option Action
next_to_do v = slice_get v.todo 0

-- the provider that an action calls
abbrev pub called_by : Option Action → Option ℕ
called_by (Some (Store j object stripe)) = Some j
called_by (Some (Fetch j object stripe)) = Some j
called_by action = None
