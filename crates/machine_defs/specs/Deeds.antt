-- What the steps of a run did: which job made which action, and which numbers were used.
--
--   Makes old m job action                      == a moment after this state is a step in which the job made
--                                                  the action, or failed at it; nothing ran alone
--   StoresFor old m begun object                == it is a store of a put with that begin, on that object
--   AsksFor old m begun number object round     == it is an ask of an audit with that begin and number, for
--                                                  an object in a round
--   HasStored start ms begun object             == one of these moments is such a store
--   HasAsked start ms begun number object round == one of these moments is such an ask
--   told_block w j object stripe                == the block that provider j holds, or none, where it tells
--                                                  what it holds
--   HasMadeStore s job j object stripe          == the job has made its store of that block
use Rattle.std.specs.Prelude.{◌≡◌, ◌⊎◌, ℕ, ◌<◌, true, false, List, [], ◌∷◌, Option, None, Some, slice_get}
use Rattle.std.specs.Option.{option_map}
use Rattle.record_defs.specs.Records.{Setup}
use Rattle.machine_defs.specs.Jobs.{PutJob, AuditJob, Job, job_of}
use Rattle.machine_defs.specs.Actions.{Action, Store, Ask, actions_of}
use Rattle.machine_defs.specs.Events.{Step}
use Rattle.machine_defs.specs.States.{State}
use Rattle.machine_defs.specs.Steps.{next_action, holder_of}
use Rattle.machine_defs.specs.Runs.{Moment, now}

-- a step in which a job made an action, or failed at it
pub record Makes (old : State) (m : Moment) (job : Job) (action : Action) : Type 0 where
  pub event : m.event ≡ Step job.number
  pub is_open : old.is_open ≡ true
  pub unbarred : old.is_barred ≡ false
  pub none_alone : old.alone ≡ None
  pub runs : job_of old.jobs job.number ≡ Some job
  pub next : next_action old job ≡ Some action
  pub unheld : holder_of old.append action ≡ None

-- a store of a put
pub record StoresFor (old : State) (m : Moment) (begun object : ℕ) : Type 0 where
  pub job : Job
  pub name : List ℕ
  pub bytes : List ℕ
  pub provider : ℕ
  pub stripe : ℕ
  pub makes : Makes old m job (Store provider object stripe)
  pub puts : job.kind ≡ PutJob name bytes
  pub begun_is : job.begun ≡ begun

-- an ask of an audit
pub record AsksFor (old : State) (m : Moment) (begun number object round : ℕ) : Type 0 where
  pub job : Job
  pub provider : ℕ
  pub makes : Makes old m job (Ask provider object round)
  pub audits : job.kind ≡ AuditJob
  pub begun_is : job.begun ≡ begun
  pub number_is : job.subject ≡ number

-- some moment of a run is a store of the put with that begin, on that object
abbrev pub HasStored : State → List Moment → ℕ → ℕ → Type 0
HasStored start [] begun object = ⊥
HasStored start (m ∷ ms) begun object =
    StoresFor (now start ms) m begun object ⊎ HasStored start ms begun object

-- some moment of a run is an ask of the audit with that begin and number, for that object in that round
abbrev pub HasAsked : State → List Moment → ℕ → ℕ → ℕ → ℕ → Type 0
HasAsked start [] begun number object round = ⊥
HasAsked start (m ∷ ms) begun number object round =
    AsksFor (now start ms) m begun number object round ⊎ HasAsked start ms begun number object round

-- the block that a provider holds, or none, where it tells
abbrev pub told_block : State → ℕ → ℕ → ℕ → Option (Option (List ℕ))
told_block w j object stripe = option_map (λ held. held object stripe) (w.providers j).held

-- a job has made its store of a block
pub record HasMadeStore (s : Setup) (job : Job) (j object stripe : ℕ) : Type 0 where
  pub place : ℕ
  pub made : place < job.place
  pub action : slice_get (actions_of s job) place ≡ Some (Store j object stripe)
