-- What providers hold behind a scrub, or a repair, of a replay; and what a stop leaves of a job.
--
--   IsExactBehind start base new end name bytes g how ps qs
--                     == the bytes are got back; where both lists name few, whole, and each provider that the second
--                        does not name holds its own blocks exactly
--   IsRightBehind start base new end name bytes g how counts ps qs
--                     == the bytes are got back; where both lists name few, and the counts flag each of the first,
--                        whole, and no provider that the second does not name is wrong
--   IsGotOver start base new end name bytes g how named
--                     == the bytes are got back; where each list names few, whole
--   IsKeptOver ..     == the same, and each image of the disk has the file
--   IsUpkeep event    == the begin of an audit, a repair, an upgrade, a scrub or a pack
--   AreSteps number commands  == each command is a step of this job
--   GivesOrLoses start base new g name how named
--                     == a get that ended among the moments of a replay gave the bytes that stood under its name at
--                        its begin, or is lost by calls of providers that failed, where each list names few
--   TellsNames start base new told
--                     == a list of the names in a replay tells of each name whether a file was in effect under it
--                        then, and of which size
use Rattle.std.specs.Prelude.{◌≡◌, ℕ, true, List, [], ◌∷◌, ◌++◌, length}
use Rattle.algebra_laws.specs.Lists.{In}
use Rattle.record_defs.specs.Table.{find_file}
use Rattle.machine_defs.specs.Jobs.{AuditJob, RepairJob}
use Rattle.machine_defs.specs.Events.{BeginScrub, BeginPack}
use Rattle.second_half_laws.specs.Sharp.{GivesOrIsLost}
use Rattle.effect_laws.specs.Lists.{IsListedAs}
use Rattle.epoch_laws.specs.Epochs.{AreExactBut, AreRightBut}
use Rattle.epoch_laws.specs.Told.{AreFew, IsWhole}
use Rattle.stories.specs.Words.{is_flagged, EachImage, File, Answer, Event, Begin, Step, UpgradeJob, Moment, now, State, setup_in, file_in, Instruction, Once, GetEnds, Seen, Ending, ImageHasFile, devices_of_seen, AreLeft}
use Rattle.stories.specs.Told.{IsGotBack}

-- the bytes are got back, and each provider that is not named since holds its own blocks exactly
abbrev pub IsExactBehind : State → List Moment → Seen → Ending → List ℕ → List ℕ → ℕ → Answer → List ℕ
    → List ℕ → Type 0
IsExactBehind start base new end name bytes g how ps qs =
    (G : IsGotBack start base new end name bytes g how)
    × (AreFew (ps ∷ qs ∷ []) (now start (G.ms ++ base))
    → IsWhole start G.get × AreExactBut qs (now start (G.ms ++ base)))

-- the bytes are got back, and no provider that is not named since is wrong
abbrev pub IsRightBehind : State → List Moment → Seen → Ending → List ℕ → List ℕ → ℕ → Answer → List ℕ
    → List ℕ → List ℕ → Type 0
IsRightBehind start base new end name bytes g how counts ps qs =
    (G : IsGotBack start base new end name bytes g how)
    × (AreFew (ps ∷ qs ∷ []) (now start (G.ms ++ base))
    → ((j : ℕ) → In j ps → is_flagged (setup_in (now start (G.ms ++ base))).tolerance counts j ≡ true)
    → IsWhole start G.get × AreRightBut qs (now start (G.ms ++ base)))

-- the bytes are got back, where each list names few
abbrev pub IsGotOver : State → List Moment → Seen → Ending → List ℕ → List ℕ → ℕ → Answer → List (List ℕ)
    → Type 0
IsGotOver start base new end name bytes g how named =
    (G : IsGotBack start base new end name bytes g how)
    × (AreFew named (now start (G.ms ++ base)) → IsWhole start G.get)

-- and each image of the disk has the file
abbrev pub IsKeptOver : State → List Moment → Seen → Ending → List ℕ → List ℕ → ℕ → Answer → List ℕ → Type 0
IsKeptOver start base new end name bytes g how ps =
    IsGotOver start base new end name bytes g how (ps ∷ [])
    × ((file : File) × (file.size ≡ length bytes) × EachImage new.disk (ImageHasFile name file))

-- the begin of an audit, a repair, an upgrade, a scrub or a pack
abbrev pub IsUpkeep : Event → Type 0
IsUpkeep (Begin AuditJob) = Unit {0}
IsUpkeep (Begin RepairJob) = Unit {0}
IsUpkeep (Begin UpgradeJob) = Unit {0}
IsUpkeep BeginScrub = Unit {0}
IsUpkeep BeginPack = Unit {0}
IsUpkeep event = ⊥

-- each of these commands is a step of this job
abbrev pub AreSteps : ℕ → List Instruction → Type 0
AreSteps number [] = Unit {0}
AreSteps number (command ∷ commands) = (command ≡ Once (Step number)) × AreSteps number commands

-- a get among the moments of a replay
pub record GivesOrLoses (start : State) (base : List Moment) (new : Seen) (g : ℕ) (name : List ℕ)
    (how : Answer) (named : List (List ℕ)) : Type 0 where
  pub after : List Moment
  pub last : Moment
  pub gaps : List Moment
  pub begin : Moment
  pub before : List Moment
  pub left : AreLeft start (after ++ last ∷ (gaps ++ begin ∷ (before ++ base))) (devices_of_seen new)
  pub ends : GetEnds begin gaps last g name how
  pub gives : AreFew named (now start (after ++ last ∷ (gaps ++ begin ∷ (before ++ base))))
      → GivesOrIsLost (now start (before ++ base)) last.state name how

-- a list of the names in a replay tells what stood then
pub record TellsNames (start : State) (base : List Moment) (new : Seen) (told : List File) : Type 0 where
  pub later : List Moment
  pub ms : List Moment
  pub left : AreLeft start (later ++ (ms ++ base)) (devices_of_seen new)
  pub each : (name : List ℕ) → IsListedAs (file_in (now start (ms ++ base)) name) (find_file told name)
