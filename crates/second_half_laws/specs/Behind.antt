-- What stands behind a job in its list of actions.
--
--   HasMade s job a   == the action stands before the job's place
use Rattle.std.specs.Prelude.{◌≡◌, ℕ, ◌<◌, Some, slice_get}
use Rattle.record_defs.specs.Records.{Setup}
use Rattle.machine_defs.specs.Jobs.{Job}
use Rattle.machine_defs.specs.Actions.{Action, actions_of}

-- an action stands before a job's place
pub record HasMade (s : Setup) (job : Job) (a : Action) : Type 0 where
  pub place : ℕ
  pub made : place < job.place
  pub action : slice_get (actions_of s job) place ≡ Some a
