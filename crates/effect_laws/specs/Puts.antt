-- What stands under a name, told by events and outcomes alone.
--
--   PutsUnder name kind, Drops name kind  == a job of this kind puts the name, drops it
--   NoPutBegan name ms, NoDropBegan name ms
--                            == none of these moments began a put of the name, a drop of it
--   WasPut ms name bytes     == one of these moments began a put of the bytes under the name
--   PutsOnly name bytes ms   == each put of the name that one of these moments began is of these bytes
--   DroppedOut ms name       == among these moments a drop of the name began and ended well, and no put of it
--                               began since; no other put or drop of it was under way at its begin or began
--                               until its end
--   MayStand w name file     == the file is in effect under the name, or is so with the record in doubt added,
--                               as a reopening or a stop may settle it
--   HasFile w name           == the name has a file in effect, and so it has with the record in doubt added
use Rattle.std.specs.Prelude.{◌≡◌, ◌⊎◌, ℕ, List, [], ◌∷◌, ◌++◌, Some}
use Rattle.record_defs.specs.Table.{File, file_of}
use Rattle.machine_defs.specs.Jobs.{Kind, PutJob, DropJob}
use Rattle.machine_defs.specs.Answers.{Dropped}
use Rattle.machine_defs.specs.Events.{Begin, Step, Begun, Ended}
use Rattle.machine_defs.specs.States.{State, Doubt, file_in, with_doubt}
use Rattle.machine_defs.specs.Runs.{Moment}
use Rattle.machine_defs.specs.Began.{NoneBegan, IsPutBegin}
use Rattle.machine_defs.specs.Untouched.{NoneBeganFor, NoneBeganOn, IsFree}

-- a job of this kind puts the name
abbrev pub PutsUnder : List ℕ → Kind → Type 0
PutsUnder name (PutJob n bytes) = n ≡ name
PutsUnder name kind = ⊥

-- a job of this kind drops the name
abbrev pub Drops : List ℕ → Kind → Type 0
Drops name (DropJob n) = n ≡ name
Drops name kind = ⊥

-- none of these moments began a put of the name
abbrev pub NoPutBegan : List ℕ → List Moment → Type 0
NoPutBegan name ms = NoneBeganFor (PutsUnder name) ms

-- none of these moments began a drop of the name
abbrev pub NoDropBegan : List ℕ → List Moment → Type 0
NoDropBegan name ms = NoneBeganFor (Drops name) ms

-- one of these moments began a put of the bytes under the name
pub record WasPut (ms : List Moment) (name bytes : List ℕ) : Type 0 where
  pub later : List Moment
  pub begin : Moment
  pub before : List Moment
  pub number : ℕ
  pub split : ms ≡ later ++ begin ∷ before
  pub event : IsPutBegin begin.event name bytes
  pub begun : begin.outcome ≡ Begun number

-- each put of the name that one of these moments began is of these bytes
abbrev pub PutsOnly : List ℕ → List ℕ → List Moment → Type 0
PutsOnly name bytes [] = Unit {0}
PutsOnly name bytes (m ∷ ms) =
    ((other : List ℕ) (number : ℕ) → IsPutBegin m.event name other → m.outcome ≡ Begun number →
    other ≡ bytes) × PutsOnly name bytes ms

-- a drop of the name began and ended well, and no put of it began since
pub record DroppedOut (ms : List Moment) (name : List ℕ) : Type 0 where
  pub later : List Moment
  pub end : Moment
  pub between : List Moment
  pub begin : Moment
  pub older : List Moment
  pub number : ℕ
  pub split : ms ≡ later ++ end ∷ (between ++ begin ∷ older)
  pub free : IsFree name older
  pub begin_event : begin.event ≡ Begin (DropJob name)
  pub begun : begin.outcome ≡ Begun number
  pub none : NoneBegan number between
  pub none_between : NoneBeganOn name between
  pub end_event : end.event ≡ Step number
  pub ended : end.outcome ≡ Ended Dropped
  pub none_since : NoPutBegan name later

-- a file is in effect under a name, or is so with the record in doubt added
abbrev pub MayStand : State → List ℕ → File → Type 0
MayStand w name file = (file_in w name ≡ Some file)
    ⊎ ((d : Doubt) × (w.doubt ≡ Some d) × (file_of (with_doubt w d) name ≡ Some file))

-- a name has a file in effect, and so it has with the record in doubt added
pub record HasFile (w : State) (name : List ℕ) : Type 0 where
  pub in_effect : (file : File) × (file_in w name ≡ Some file)
  pub with_doubt : (d : Doubt) → w.doubt ≡ Some d → (file : File) × (file_of (with_doubt w d) name ≡ Some file)
