-- A run in which an audit missed damage, and a scrub mended it.
--
--   lenient, missing     == the setup of four providers with a tolerance of 1, and the start over its journal
--   HasMissed ms         == a put; a block of provider 2 is lost; an audit counts it once, which is tolerated; a scrub
--                           stores the block anew; and a get. The run is calm counted from finished scrubs
--   IsSweeping ms scrub  == the same up to the scrub's store: it has opened the stripe, and provider 2 has no block
use Rattle.std.specs.Prelude.{◌≡◌, ℕ, false, List, [], ◌∷◌, Some, None}
use Rattle.record_defs.specs.Records.{Setup, SetUp}
use Rattle.record_defs.specs.Examples.{four}
use Rattle.machine_defs.specs.Actions.{Store, End}
use Rattle.machine_defs.specs.Answers.{Put, Got, Audited, Scrubbed}
use Rattle.machine_defs.specs.Deeds.{told_block}
use Rattle.machine_defs.specs.Events.{Lose, Step, Ended, Replaced}
use Rattle.machine_defs.specs.Examples.{opened}
use Rattle.machine_defs.specs.Halves.{AllTell}
use Rattle.machine_defs.specs.Missed.{NoneMissed}
use Rattle.machine_defs.specs.Runs.{Moment, IsRun, now}
use Rattle.machine_defs.specs.Scrubs.{scrubbed, IsScrubCalm}
use Rattle.machine_defs.specs.States.{State, Scrub, Scrubbing, IsStart}
use Rattle.damage_run.specs.Points.{byte, counts, IsEvent}

-- four providers, where one wrong answer is tolerated
abbrev pub lenient : Setup
lenient = record four { tolerance = 1 }

-- the start over a journal whose only record is that setup
abbrev pub missing : State
missing = record (opened (SetUp lenient ∷ []) []) { is_open = false }

-- what the scrub finds of each provider: six symbols, one block
abbrev pub symbols_off : List ℕ
symbols_off = 0 ∷ 0 ∷ 6 ∷ 0 ∷ []

abbrev pub blocks_off : List ℕ
blocks_off = 0 ∷ 0 ∷ 1 ∷ 0 ∷ []

-- an audit missed damage, and a scrub mended it
pub record HasMissed (ms : List Moment) : Type 0 where
  pub clean : IsStart missing
  pub tell : AllTell missing
  pub run : IsRun 8 missing ms
  pub calm : IsScrubCalm missing ms
  pub put : IsEvent ms 14 (Step 1) (Ended Put)
  pub damaged : IsEvent ms 15 (Lose 2 1 0) Replaced
  pub audited : IsEvent ms 29 (Step 2) (Ended (Audited 1 0 counts))
  pub missed : NoneMissed missing ms → ⊥
  pub swept : IsEvent ms 37 (Step 3) (Ended (Scrubbed 1 symbols_off blocks_off))
  pub mark : scrubbed missing ms ≡ 30
  pub got : IsEvent ms 44 (Step 4) (Ended (Got byte))

-- the scrub is to store the lost block
pub record IsSweeping (ms : List Moment) (scrub : Scrub) : Type 0 where
  pub clean : IsStart missing
  pub tell : AllTell missing
  pub run : IsRun 8 missing ms
  pub calm : IsScrubCalm missing ms
  pub runs : (now missing ms).alone ≡ Some (Scrubbing scrub)
  pub todo : scrub.todo ≡ Store 2 1 0 ∷ End ∷ []
  pub lacks : told_block (now missing ms) 2 1 0 ≡ Some None
