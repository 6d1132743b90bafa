-- A file that is put and got, as a transcript tells it. Commands, moments and outcomes have the newest first.
--
--   done_by event number front == commands that begin a job, or what runs alone, and run it to its end, behind any
--                                 others
--   AreFew named w             == each of these lists names at most as many providers as may be wrong
--   GotBack base ms name bytes g how
--                              == a get ended with the newest moment and this answer, behind moments that stored the
--                                 bytes under its name, and left them so
--   IsWhole start G            == it gave the bytes, or is lost by calls of providers that failed
--   ByScrubs named commands outcomes
--                              == scrubs among these commands ended well; of the lists each names who is damaged
--                                 between one and the next, the newest first, and the last one who is before the first
--   oldest named, newest named == the last of these lists, and the first
use Rattle.std.specs.Prelude.{◌≡◌, ◌⊎◌, ◌≤◌, ℕ, List, [], ◌∷◌, ◌++◌, length}
use Rattle.std.specs.List.{AllByRecursion}
use Rattle.machine_defs.specs.Answers.{Answer, Got, Scrubbed}
use Rattle.machine_defs.specs.Damaged.{AsksDamageOf}
use Rattle.machine_defs.specs.Events.{Event, BeginScrub, Outcome, Begun, Ended}
use Rattle.machine_defs.specs.Runs.{Moment, now}
use Rattle.machine_defs.specs.States.{State, setup_in}
use Rattle.machine_defs.specs.Transcripts.{Instruction, Once, RunJob}
use Rattle.run_laws.specs.Stories.{Stored, GetEnds}
use Rattle.second_half_laws.specs.Sharp.{IsLostByFaults}

-- a job, or what runs alone, is begun and run to its end, behind any commands
abbrev pub done_by : Event → ℕ → List Instruction → List Instruction
done_by event number front = RunJob number ∷ Once event ∷ front

-- each of these lists names at most as many providers as may be wrong
abbrev pub AreFew : List (List ℕ) → State → Type 0
AreFew named w = AllByRecursion (λ ps. length ps ≤ (setup_in w).b) named

-- a get ended with the newest moment, behind moments that stored the bytes under its name
pub record GotBack (base ms : List Moment) (name bytes : List ℕ) (g : ℕ) (how : Answer) : Type 0 where
  pub before : List Moment
  pub begin : Moment
  pub gaps : List Moment
  pub last : Moment
  pub moments : ms ≡ last ∷ (gaps ++ begin ∷ before)
  pub stored : Stored (before ++ base) name bytes
  pub ends : GetEnds begin gaps last g name how
  pub still : Stored (ms ++ base) name bytes

-- it gave the bytes, or is lost by calls of providers that failed
abbrev pub IsWhole : State → {base ms : List Moment} → {name bytes : List ℕ} → {g : ℕ} → {how : Answer}
    → GotBack base ms name bytes g how → Type 0
IsWhole start {base} {ms} {name} {bytes} {g} {how} G =
    (how ≡ Got bytes) ⊎ IsLostByFaults (now start (G.before ++ base)) G.last.state how

-- commands with scrubs that ended well: between each and the next, and since the last, providers of these lists alone
-- are damaged, those since the last first
pub data ByScrubs : List (List ℕ) → List Instruction → List Outcome → Type 0 where
  first : (ps : List ℕ) (commands : List Instruction) (outcomes : List Outcome) → AsksDamageOf ps commands
      → ByScrubs (ps ∷ []) commands outcomes
  swept : (qs : List ℕ) (named : List (List ℕ)) (behind front : List Instruction) (rs us : List Outcome)
      (s stripes : ℕ) (symbols blocks : List ℕ) → length rs ≡ length behind → AsksDamageOf qs behind
      → ByScrubs named front us → ByScrubs (qs ∷ named) (behind ++ done_by BeginScrub s front)
      (rs ++ Ended (Scrubbed stripes symbols blocks) ∷ Begun s ∷ us)

-- those of the first list that was damaged, and of the last
abbrev pub oldest : List (List ℕ) → List ℕ
oldest [] = []
oldest (ps ∷ []) = ps
oldest (ps ∷ qs ∷ named) = oldest (qs ∷ named)

abbrev pub newest : List (List ℕ) → List ℕ
newest [] = []
newest (ps ∷ named) = ps
