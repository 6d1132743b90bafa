use Rattle.std.proofs.Common.{refl}
use Rattle.damage_run.proofs.Run.{are-run}
use Rattle.damage_run.specs.Words.{Step, Ended, Lost, set_up, run_of}
use Rattle.damage_run.proofs.LostGet.{lost, fit_lost}
use Rattle.damage_run.proofs.Points.{is-event}
use Rattle.damage_run.proofs.runs.a_get_is_lost.Goals as goal

pub returns : goal.returns
returns c = (
  run_of set_up lost,
  are-run 8 set_up lost fit_lost,
  is-event (run_of set_up lost) 63 (Step 6) (Ended (Lost 0 0)) refl refl refl,
)
