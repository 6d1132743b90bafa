-- A scrub, told by events and outcomes, and what providers hold behind it, or behind a repair.
--
--   IsSwept older ms    == behind the older moments a scrub began, which ended well with the newest moment
--   HoldsOf w qs Holds  == of each stripe of each file in effect each provider that the list does not name tells
--                          what it holds, and it is so of that
--   AreExactBut qs w    == each such provider holds its own block exactly
--   AreRightBut qs w    == no such provider is wrong: it holds a block of the size, which differs from its own at
--                          so few places that the server code corrects them
use Rattle.std.specs.Prelude.{◌≡◌, ℕ, ◌<◌, false, List, ◌∷◌, ◌++◌, length, Option, Some}
use Rattle.algebra_laws.specs.Lists.{In}
use Rattle.column_defs.specs.Objects.{Object, stripes}
use Rattle.column_defs.specs.Columns.{columns, is_wrong_block}
use Rattle.record_defs.specs.Table.{File}
use Rattle.machine_defs.specs.Answers.{Scrubbed}
use Rattle.machine_defs.specs.Began.{NoneBegan}
use Rattle.machine_defs.specs.Deeds.{told_block}
use Rattle.machine_defs.specs.Events.{BeginScrub, Step, Begun, Ended}
use Rattle.machine_defs.specs.Runs.{Moment}
use Rattle.machine_defs.specs.States.{State, setup_in, file_object, file_in}

-- a scrub that began behind the older moments, and ends with the newest
pub record IsSwept (older ms : List Moment) : Type 0 where
  pub end : Moment
  pub sweeping : List Moment
  pub begin : Moment
  pub split : ms ≡ end ∷ (sweeping ++ begin ∷ older)
  pub number : ℕ
  pub stripes : ℕ
  pub symbols : List ℕ
  pub blocks : List ℕ
  pub begin_event : begin.event ≡ BeginScrub
  pub begun : begin.outcome ≡ Begun number
  pub none : NoneBegan number sweeping
  pub end_event : end.event ≡ Step number
  pub ended : end.outcome ≡ Ended (Scrubbed stripes symbols blocks)

-- so it is of what each provider but those of a list holds, of each stripe of each file in effect
abbrev pub HoldsOf : State → List ℕ → (Object → List ℕ → ℕ → ℕ → Option (List ℕ) → Type 0) → Type 0
HoldsOf w qs Holds =
    (name : List ℕ) (file : File) (j stripe : ℕ) → file_in w name ≡ Some file → j < (setup_in w).n
    → stripe < stripes (file_object w file) (length (w.bytes file.id)) → (In j qs → ⊥)
    → (block : Option (List ℕ)) × (told_block w j file.id stripe ≡ Some block)
    × Holds (file_object w file) (w.bytes file.id) j stripe block

-- each of them holds its own block exactly
abbrev pub AreExactBut : List ℕ → State → Type 0
AreExactBut qs w = HoldsOf w qs (λ o bytes j stripe block. block ≡ Some (columns o bytes j stripe))

-- none of them is wrong
abbrev pub AreRightBut : List ℕ → State → Type 0
AreRightBut qs w = HoldsOf w qs (λ o bytes j stripe block. is_wrong_block o bytes j stripe block ≡ false)
