-- A replay of which its text and what it wrote tell how each command ended.
--
--   IsToldReplay words text commands outcomes start ms old new end
--                     == words that spell a replay are answered with status 0, where the text in the source spells
--                        these commands, and what was written are the lines of these outcomes, as many as commands;
--                        of a scrub any blocks may be named. Commands and outcomes have the newest first
--   WasTold commands outcomes start ms new end
--                     == behind a later call of the program moments carry the commands out, which end so
--   IsGotBack start base new end name bytes g how
--                     == a get ended last with this answer, behind moments that stored the bytes under its name: if
--                        it gave bytes, they are these, or the report holds a forgery against them
use Rattle.std.specs.Prelude.{◌≡◌, ◌⊎◌, ℕ, true, List, ◌++◌, String, Some, is_some, length, reverse}
use Rattle.std.specs.List.{AllByRecursion}
use Rattle.std.specs.declared.alloc.Global.{Global}
use Rattle.headline.specs.Headline.{Headline}
use Rattle.effect_laws.specs.Scrubs.{IsToldButBlocks}
use Rattle.epoch_laws.specs.Told.{GotBack}
use Rattle.stories.specs.Words.{File, Answer, Got, Outcome, HoldsForgery, heard_in, Moment, now, State, file_in, file_object, Instruction, NoneCalls, ReadsAs, Seen, Ending, IsSchedule, lines_of_all, devices_of_seen, IsReplayForm, AreLeft, called_behind, AnswersWords}

-- a replay is told by its text and by what it wrote
pub record IsToldReplay (words : List (String Global)) (text : List ℕ) (commands : List Instruction)
    (outcomes : List Outcome) (start : State) (ms : List Moment) (old new : Seen) (end : Ending)
    : Type 0 where
  pub answers : AnswersWords words old new end
  pub form : IsReplayForm words
  pub source : old.source ≡ Some text
  pub spells : IsSchedule text (reverse commands)
  pub done : end.status ≡ 0
  pub disk : is_some old.disk ≡ true
  pub left : AreLeft start ms (devices_of_seen old)
  pub none_calls : NoneCalls commands
  pub taken : List ℕ
  pub before : old.sink ≡ Some taken
  pub behind : new.sink ≡ Some (taken ++ lines_of_all outcomes)
  pub as_many : length outcomes ≡ length commands
  pub told : AllByRecursion IsToldButBlocks outcomes

-- moments carry commands out, which end as these outcomes
pub record WasTold (commands : List Instruction) (outcomes : List Outcome) (start : State)
    (ms : List Moment) (new : Seen) (end : Ending) : Type 0 where
  pub later : List Moment
  pub reads : ReadsAs commands later outcomes
  pub left : AreLeft start (later ++ called_behind start ms) (devices_of_seen new)
  pub heard : end.heard ≡ heard_in start (later ++ called_behind start ms)
  pub headline : Headline start (later ++ called_behind start ms)

-- a get ended last, behind moments that stored the bytes under its name
pub record IsGotBack (start : State) (base : List Moment) (new : Seen) (end : Ending) (name bytes : List ℕ)
    (g : ℕ) (how : Answer) : Type 0 where
  pub ms : List Moment  -- of the replay
  pub left : AreLeft start (ms ++ base) (devices_of_seen new)
  pub get : GotBack base ms name bytes g how
  pub right : (got : List ℕ) → how ≡ Got got
      → (got ≡ bytes) ⊎ ((file : File) × (file_in (now start (get.before ++ base)) name ≡ Some file)
      × HoldsForgery (file_object (now start (get.before ++ base)) file) bytes g end.heard)
