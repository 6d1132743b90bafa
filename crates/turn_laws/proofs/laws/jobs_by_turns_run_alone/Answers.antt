use Rattle.turn_laws.proofs.Turned.{turns-so}
use Rattle.turn_laws.proofs.laws.jobs_by_turns_run_alone.Goals as goal

pub returns : goal.returns
returns c = turns-so
