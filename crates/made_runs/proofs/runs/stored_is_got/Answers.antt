use Rattle.std.specs.Fmt.{digits}
use Rattle.made_runs.proofs.Words.{refl, actions_of, setup_in, set_up, run_of}
use Rattle.made_runs.proofs.Written.{carries}
use Rattle.made_runs.proofs.GetRun.{instructions, is_run}
use Rattle.made_runs.proofs.runs.stored_is_got.Goals as goal

pub returns : goal.returns
unfolding setup_in actions_of digits
returns c = (run_of set_up instructions, is_run, carries set_up instructions refl)
