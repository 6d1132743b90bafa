use Rattle.hail_scrub.proofs.Starts.{step_beside}
use Rattle.hail_scrub.proofs.laws.steps_leave_the_rest.Goals as goal

pub returns : goal.returns
returns c = step_beside
