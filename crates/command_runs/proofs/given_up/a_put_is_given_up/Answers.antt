use Rattle.command_runs.proofs.Words.{refl, long}
use Rattle.lone_laws.specs.Walked.{MayName}
use Rattle.command_runs.proofs.GivenUpPut.{given_up, given_up-runs, old-sure}
use Rattle.command_runs.proofs.given_up.a_put_is_given_up.Goals as goal

pub returns : goal.returns
returns c = record {
  answers = given_up;
  runs = given_up-runs;
  left = c.told_parts_leave.ensures _ _ _ _ _ _ (old-sure long).known.opened (refl, refl) (MayName.none refl)
      refl given_up-runs;
}
