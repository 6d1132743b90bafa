-- Runs of providers that tell what they hold, which are calm.
--
--   BeginsNoScrub ms                 == no event of these begins a scrub
--   AreMarks mark start ms           == at each moment the mark is one
--   IsMarkedRun limit mark start ms  == a run from a start, of providers that tell, calm by a mark that is
--                                       one at each moment
--   IsCalmRun limit start ms         == the same with the begin of the last settled audit, where no audit
--                                       missed damage, and calm for scrubs too
use Rattle.std.specs.Prelude.{◌≡◌, ℕ, List, [], ◌∷◌}
use Rattle.machine_defs.specs.Events.{BeginScrub}
use Rattle.machine_defs.specs.States.{State, IsStart}
use Rattle.machine_defs.specs.Runs.{Moment, IsRun}
use Rattle.machine_defs.specs.Calm.{Mark, since, relies, IsCalm}
use Rattle.machine_defs.specs.Missed.{NoneMissed}
use Rattle.machine_defs.specs.Scrubs.{AreScrubsCalm}
use Rattle.machine_defs.specs.Halves.{AllTell}
use Rattle.second_half_laws.specs.Marks.{IsMark}

-- no scrub begins
abbrev pub BeginsNoScrub : List Moment → Type 0
BeginsNoScrub [] = Unit {0}
BeginsNoScrub (m ∷ ms) = (m.event ≡ BeginScrub → ⊥) × BeginsNoScrub ms

-- at each moment the mark is a moment since which all damage is new
abbrev pub AreMarks : Mark → State → List Moment → Type 0
AreMarks mark start [] = IsMark start [] (mark [])
AreMarks mark start (m ∷ ms) = IsMark start (m ∷ ms) (mark (m ∷ ms)) × AreMarks mark start ms

-- a run that is calm by a mark
pub record IsMarkedRun (limit : ℕ) (mark : Mark) (start : State) (ms : List Moment) : Type 0 where
  pub clean : IsStart start
  pub tell : AllTell start
  pub run : IsRun limit start ms
  pub calm : IsCalm relies mark ms
  pub marks : AreMarks mark start ms

-- a calm run in which no audit missed damage
pub record IsCalmRun (limit : ℕ) (start : State) (ms : List Moment) : Type 0 where
  pub clean : IsStart start
  pub tell : AllTell start
  pub run : IsRun limit start ms
  pub calm : IsCalm relies (since start) ms
  pub scrubs : AreScrubsCalm (since start) ms
  pub found : NoneMissed start ms
