-- How a scrub stands for one of the machine.
--
--   scrub_answer n answer, scrub_outcome n turn == the machine's answer and outcome, of n providers
--   IsStripeInWork at given                     == what the machine was given of the stripe in work is at
--                                                  hand
--   ScrubIs v s m                               == a scrub is one of the machine, under a setup
--   ScrubStands v ps w m                        == the scrub, over these providers, is the one that runs
--                                                  alone in a state
--   IsOver turn v                               == where it goes on, it has a step left; where it ended, none
--   MakesScrubStep w m turn v qs                == a step is one of the machine's scrub: it makes its next
--                                                  action
use Rattle.std.specs.Prelude.{◌≡◌, ℕ, ◌<◌, ◌≤◌, true, false, List, length, take, Some, None, slice_get, slice_index}
use Rattle.column_defs.specs.Objects.{Object}
use Rattle.device_defs.specs.Providers.{Provider}
use Rattle.record_defs.specs.Records.{Setup}
use Rattle.machine_defs.specs.Jobs.{Given}
use Rattle.machine_defs.specs.Setups.{profiled, object_of}
use Rattle.machine_defs.specs.Given.{symbols_given, pinned_profile}
use Rattle.machine_defs.specs.Answers as answers
use Rattle.machine_defs.specs.Events as events
use Rattle.machine_defs.specs.Events.{Outcome, Step}
use Rattle.machine_defs.specs.States.{State, Scrub, Scrubbing, setup_in}
use Rattle.machine_defs.specs.Machine.{Happens}
use Rattle.opening_defs.specs.Opened.{AreHanded}
use Rattle.stripe_bench.specs.Gifts.{fetched_gifts}
use Rattle.hail_scrub.specs.declared.turn.ScrubAnswer.{ScrubAnswer}
use Rattle.hail_scrub.specs.declared.turn.ScrubAnswer.TheVariants as answer
use Rattle.hail_scrub.specs.declared.turn.ScrubTurn.{ScrubTurn}
use Rattle.hail_scrub.specs.declared.turn.ScrubTurn.TheVariants as turn
use Rattle.hail_scrub.specs.Views.{Stage, Between, Fetched, Opened, ScrubView, scrub_left}

-- the machine's answer
abbrev pub scrub_answer : ℕ → ScrubAnswer → answers.Answer
scrub_answer n (answer.Scrubbed stripes symbols blocks) =
    answers.Scrubbed stripes (take n symbols) (take n blocks)
scrub_answer n (answer.Lost stripe row) = answers.Lost stripe row
scrub_answer n (answer.ProviderFault provider) = answers.ProviderFault provider
scrub_answer n answer.Memory = answers.Memory

-- the machine's outcome
abbrev pub scrub_outcome : ℕ → ScrubTurn → Outcome
scrub_outcome n turn.More = events.More
scrub_outcome n (turn.Done a) = events.Ended (scrub_answer n a)

-- what the machine was given of the stripe in work is at hand
abbrev pub IsStripeInWork : Stage → List Given → Type 0
IsStripeInWork Between given = Unit {0}
IsStripeInWork (Fetched o t seen) given = (older : List Given) × (given ≡ fetched_gifts o t 0 seen older)
IsStripeInWork (Opened o t rows) given = rows ≡ symbols_given given o t

-- a scrub is one of the machine
pub record ScrubIs (v : ScrubView) (s : Setup) (m : Scrub) : Type 0 where
  pub few : s.n ≤ 16
  pub objects_are : (k : ℕ) (x : Object) → slice_get v.objects k ≡ Some x
      → object_of (profiled s (pinned_profile s.profile m.files x.id)) x.id ≡ x
  pub todo_is : m.todo ≡ v.todo
  pub in_work : IsStripeInWork v.at m.given
  pub stripes_are : m.found.stripes ≡ v.stripes
  pub symbols_are : (j : ℕ) → j < s.n → m.found.symbols j ≡ slice_index v.symbols j
  pub blocks_are : (j : ℕ) → j < s.n → m.found.blocks j ≡ slice_index v.blocks j
  pub long_symbols : length v.symbols ≡ 16
  pub long_blocks : length v.blocks ≡ 16

-- the scrub, over these providers, is the one that runs alone in a state
pub record ScrubStands (v : ScrubView) (ps : List Provider) (w : State) (m : Scrub) : Type 0 where
  pub alone : w.alone ≡ Some (Scrubbing m)
  pub handed : AreHanded ps w
  pub scrub : ScrubIs v (setup_in w) m

-- the scrub goes on, with the same number and files
pub record ScrubGoesOn (v : ScrubView) (qs : List Provider) (m : Scrub) (w : State) : Type 0 where
  pub next : Scrub
  pub stands : ScrubStands v qs w next
  pub number_stays : next.number ≡ m.number
  pub begun_stays : next.begun ≡ m.begun
  pub files_stay : next.files ≡ m.files

-- where it goes on, it is that scrub; else nothing runs alone any more
abbrev pub IsLeft : ScrubTurn → ScrubView → List Provider → Scrub → State → Type 0
IsLeft turn.More v qs m w = ScrubGoesOn v qs m w
IsLeft (turn.Done a) v qs m w = w.alone ≡ None

-- where a scrub goes on, it has a step left; where it ended, none
abbrev pub IsOver : ScrubTurn → ScrubView → Type 0
IsOver turn.More v = 0 < scrub_left v
IsOver (turn.Done a) v = scrub_left v ≡ 0

-- a step is one of the machine's scrub
pub record MakesScrubStep (w : State) (m : Scrub) (t : ScrubTurn) (v : ScrubView)
    (qs : List Provider) : Type 0 where
  pub state : State
  pub happens : (limit moment : ℕ) → w.is_open ≡ true → w.is_barred ≡ false
      → Happens limit moment w (Step m.number) (scrub_outcome (setup_in w).n t) state
  pub beside : state ≡ record w { alone = state.alone; providers = state.providers }
  pub handed : AreHanded qs state
  pub left : IsLeft t v qs m state
