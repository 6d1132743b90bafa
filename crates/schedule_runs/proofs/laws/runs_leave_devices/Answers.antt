use Rattle.std.proofs.Common.{refl}
use Rattle.schedule_runs.specs.Words.{set_up}
use Rattle.damage_run.proofs.Run.{moments as damage}
use Rattle.damage_run.proofs.CalmRun.{outright}
use Rattle.fault_run.proofs.Run.{moments as faults}
use Rattle.fault_run.proofs.Points.{faulty}
use Rattle.schedule_runs.proofs.Going.{left-of}
use Rattle.schedule_runs.proofs.laws.runs_leave_devices.Goals as goal

pub returns : goal.returns
returns c = let at = c.a_fresh_disk_has_a_start.ensures.start in record {
  each = left-of;
  tell = λ start ms. refl;
  fresh = record { starts = at.0; run = tt; devices = at.1 };
  damaged = (damage, outright, left-of set_up damage outright.clean outright.run);
  faulty = (faults, faulty, left-of set_up faults faulty.clean faulty.run);
}
