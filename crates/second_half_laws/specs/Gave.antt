-- What the actions that a job made gave it.
--
--   WasFetched start ms job j object stripe block  == a fetch that the job made since its begin gave this:
--                                       what provider j held then, if it was of the size, or none and its
--                                       count of failed calls rose
--   WasAsked start ms job j object round symbol    == an ask that the job made since its begin gave this:
--                                       what is honest by what provider j held then, or none and its count
--                                       of failed calls rose
--   WasOpened start ms job object stripe symbols   == blocks, each of which such a fetch gave, open to
--                                          these symbols of the stripe
use Rattle.std.specs.Prelude.{◌≡◌, ◌⊎◌, ℕ, ◌<◌, List, ◌∷◌, ◌++◌, length, Option}
use Rattle.column_defs.specs.Challenges.{honest_answer}
use Rattle.column_defs.specs.Opened.{SeenBlock, GivesSymbols, block_at}
use Rattle.device_defs.specs.ProviderCalls.{AskGives, FailsToGive}
use Rattle.machine_defs.specs.Jobs.{Job}
use Rattle.machine_defs.specs.Actions.{Fetch, Ask}
use Rattle.machine_defs.specs.States.{State, setup_in, worked_object}
use Rattle.machine_defs.specs.Audits.{asked_challenge}
use Rattle.machine_defs.specs.Runs.{Moment, now}
use Rattle.machine_defs.specs.Deeds.{Makes}
use Rattle.second_half_laws.specs.Origins.{IsHeldThen}
use Rattle.second_half_laws.specs.Made.{IsEarlier}

-- a fetch that the job made since its begin gave it this block, or none
pub record WasFetched (start : State) (ms : List Moment) (job : Job) (j object stripe : ℕ)
    (block : SeenBlock) : Type 0 where
  pub later : List Moment
  pub moment : Moment
  pub before : List Moment
  pub split : ms ≡ later ++ moment ∷ before
  pub since : job.begun < length before
  pub maker : Job
  pub same : IsEarlier maker job
  pub makes : Makes (now start before) moment maker (Fetch j object stripe)
  pub held : IsHeldThen (now start before) moment.state job.pinned j object stripe block

-- an answer, or none, to the challenge of a round, by what a provider held between two states
abbrev pub IsAnsweredThen : State → Job → State → State → ℕ → ℕ → ℕ → Option ℕ → Type 0
IsAnsweredThen w job old new j object round symbol =
    AskGives (honest_answer (asked_challenge (setup_in w) job object round)) object (old.providers j).held
    symbol
    ⊎ FailsToGive (old.providers j) symbol (new.providers j)

-- an ask that the job made since its begin gave it this answer, or none
pub record WasAsked (start : State) (ms : List Moment) (job : Job) (j object round : ℕ)
    (symbol : Option ℕ) : Type 0 where
  pub later : List Moment
  pub moment : Moment
  pub before : List Moment
  pub split : ms ≡ later ++ moment ∷ before
  pub since : job.begun < length before
  pub maker : Job
  pub same : IsEarlier maker job
  pub makes : Makes (now start before) moment maker (Ask j object round)
  pub answered : IsAnsweredThen (now start ms) job (now start before) moment.state j object round symbol

-- blocks that fetches gave the job since its begin open to these symbols of a stripe
pub record WasOpened (start : State) (ms : List Moment) (job : Job) (object stripe : ℕ)
    (symbols : List ℕ) : Type 0 where
  pub blocks : List SeenBlock
  pub opens : GivesSymbols (worked_object (now start ms) job object) stripe blocks symbols
  pub fetched : (j : ℕ) → j < (setup_in (now start ms)).n
      → WasFetched start ms job j object stripe (block_at blocks j)
