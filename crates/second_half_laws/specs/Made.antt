-- What a job has made by the time that it comes to a place in its list of actions.
--
--   IsEarlier maker job         == one job, at an earlier moment: what a job keeps from its begin on is the
--                                  same
--   WasMade start ms job action == at a moment of the run since the job's begin it made the action, and
--                                  went on
use Rattle.std.specs.Prelude.{◌≡◌, ◌<◌, ◌≤◌, List, ◌∷◌, ◌++◌, length, Some}
use Rattle.machine_defs.specs.Jobs.{Given, Job, job_of}
use Rattle.machine_defs.specs.Actions.{Action}
use Rattle.machine_defs.specs.Events.{More}
use Rattle.machine_defs.specs.States.{State}
use Rattle.machine_defs.specs.Runs.{Moment, now}
use Rattle.machine_defs.specs.Deeds.{Makes}

-- one job, at an earlier moment
pub record IsEarlier (maker job : Job) : Type 0 where
  pub number : maker.number ≡ job.number
  pub kind : maker.kind ≡ job.kind
  pub profile : maker.profile ≡ job.profile
  pub begun : maker.begun ≡ job.begun
  pub pinned : maker.pinned ≡ job.pinned
  pub flagged : maker.flagged ≡ job.flagged
  pub subject : 4 ≤ maker.place → maker.subject ≡ job.subject  -- a number is drawn in the first four actions
  pub place : maker.place < job.place

-- A job made an action at a moment of the run since its begin, and went on. What it was given up to then it
-- has been given now.
pub record WasMade (start : State) (ms : List Moment) (job : Job) (action : Action) : Type 0 where
  pub later : List Moment
  pub moment : Moment
  pub before : List Moment
  pub split : ms ≡ later ++ moment ∷ before
  pub since : job.begun < length before
  pub maker : Job
  pub same : IsEarlier maker job
  pub makes : Makes (now start before) moment maker action
  pub went_on : moment.outcome ≡ More
  pub after : Job
  pub after_is : job_of moment.state.jobs job.number ≡ Some after
  pub given : List Given
  pub given_is : job.given ≡ given ++ after.given
