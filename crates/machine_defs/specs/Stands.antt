-- What the images of a disk stand for.
--
--   StandsForState told w    == each image of a disk that tells stands for the journal, or for it with the
--                               record in doubt added, or, while the switch is under way, for the packed
--                               journal in the other area; where no record is in effect, an image of at most
--                               nine bytes stands for none
--   IsFresh cells records    == a disk before its first use: it reads nothing, or a journal in the first
--                               area whose only record is a setup, and no byte is loose
use Rattle.std.specs.Prelude.{◌≡◌, ◌⊎◌, ℕ, ◌≤◌, true, List, [], ◌∷◌, length, Option, Some}
use Rattle.record_defs.specs.Records.{Setup, Record, SetUp}
use Rattle.record_defs.specs.Areas.{A, other_area, StandsActive}
use Rattle.record_defs.specs.Packed.{packed}
use Rattle.device_defs.specs.Cells.{Cells, reads, loose_offsets}
use Rattle.device_defs.specs.Images.{EachImage}
use Rattle.machine_defs.specs.States.{State, Doubt}

-- an image stands for the journal; where there is no record, at most nine bytes stand for none too
abbrev pub StandsPlain : State → List ℕ → Type 0
StandsPlain w image = StandsActive image w.area w.journal ⊎ ((w.journal ≡ []) × (length image ≤ 9))

-- an image stands for the journal with the record in doubt added
pub record StandsWithDoubt (w : State) (image : List ℕ) : Type 0 where
  pub doubt : Doubt
  pub in_doubt : w.doubt ≡ Some doubt
  pub stands : StandsActive image w.area (doubt.entry ∷ w.journal)

-- an image stands for the packed journal in the other area, while the switch is under way
pub record StandsSwitched (w : State) (image : List ℕ) : Type 0 where
  pub switching : w.is_switching ≡ true
  pub stands : StandsActive image (other_area w.area) (packed w.journal)

-- each image of a disk stands for what may be in effect
abbrev pub StandsForState : Option Cells → State → Type 0
StandsForState told w =
    EachImage told (λ image. StandsPlain w image ⊎ (StandsWithDoubt w image ⊎ StandsSwitched w image))

-- a disk before its first use
pub record IsFresh (cells : Cells) (records : List Record) : Type 0 where
  pub firm : loose_offsets cells ≡ []
  pub stands : ((reads cells ≡ []) × (records ≡ []))
      ⊎ ((s : Setup) × (records ≡ SetUp s ∷ []) × StandsActive (reads cells) A records)
