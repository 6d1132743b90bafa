use Rattle.std.proofs.Common.{[], refl}
use Rattle.damage_run.proofs.Run.{moments as damage}
use Rattle.damage_run.proofs.CalmRun.{outright}
use Rattle.fault_run.proofs.Run.{moments as faults}
use Rattle.fault_run.proofs.Points.{faulty}
use Rattle.schedule_runs.specs.Words.{actions_of, setup_in, now, fresh, start_of, name, other}
use Rattle.schedule_runs.specs.Left.{devices_left}
use Rattle.schedule_runs.proofs.Going.{left-of, seen, goes-on, goes-with, keeps}
use Rattle.schedule_runs.proofs.laws.commands_go_on_with_them.Goals as goal

pub returns : goal.returns
unfolding setup_in actions_of
returns c = record {
  each = goes-with;
  fresh = λ form old new end is headline.
      goes-on (start_of fresh []) [] fresh form old new end c.runs_leave_devices.ensures.fresh refl is headline;
  replay = λ start ms text old new end starts run is does.
      (let at = seen start ms (devices_left (now start ms)) old (left-of start ms starts run) refl is in
      (does.commands, does.schedule, does.runs start ms at.0 at.1));
  trial = λ start ms number old new end starts run is does.
      (let at = seen start ms (devices_left (now start ms)) old (left-of start ms starts run) refl is in
      does.runs start ms at.0 at.1);
  damaged = (
    damage,
    outright,
    keeps damage 43 13 name (record { name = name; id = 1; size = 1; profile = 0 }) outright.clean
        outright.run refl
        (record { version = 1; done = refl; profiled = λ second. refl; started = refl; named = refl }) refl
        (λ d e. cc),
  );
  faulty = (
    faults,
    faulty,
    keeps faults 37 37 other (record { name = other; id = 3; size = 0; profile = 0 }) faulty.clean faulty.run
        refl (record { version = 1; done = refl; profiled = λ second. refl; started = refl; named = refl })
        refl (λ d e. cc),
  );
}
