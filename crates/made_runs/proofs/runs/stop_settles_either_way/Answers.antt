use Rattle.made_runs.proofs.Words.{refl, actions_of, setup_in, now, set_up, stopped}
use Rattle.made_runs.proofs.GetRun.{doubted_moments, doubted_run, stopped_without, stops_with, stops_without}
use Rattle.made_runs.proofs.runs.stop_settles_either_way.Goals as goal

pub returns : goal.returns
unfolding setup_in actions_of
returns c = (
  doubted_moments,
  doubted_run,
  (_, refl, refl),
  (stopped (now set_up doubted_moments), stops_with, refl),
  (stopped_without, stops_without, refl),
)
