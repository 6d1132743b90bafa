-- What a fetch of a job gave.
--
--   GaveFetched old new job j object stripe  == the job goes on with a block or none of provider j: where
--                                          it tells, what it held then, if that is of the size; or none,
--                                          and its count of failed calls rose
use Rattle.std.specs.Prelude.{◌≡◌, ◌⊎◌, ℕ, List, Option, Some}
use Rattle.device_defs.specs.ProviderCalls.{FetchGives, FailsToGive}
use Rattle.machine_defs.specs.Jobs.{Job, Fetched, job_of, advanced_with}
use Rattle.machine_defs.specs.States.{State, worked_object}

-- a fetch gave a job a block or none
pub record GaveFetched (old new : State) (job : Job) (j object stripe : ℕ) : Type 0 where
  pub block : Option (List ℕ)
  pub goes_on : job_of new.jobs job.number ≡ Some (advanced_with job (Fetched j object stripe block))
  pub gives : FetchGives (worked_object old job object).profile.size object stripe (old.providers j).held
      block ⊎ FailsToGive (old.providers j) block (new.providers j)
