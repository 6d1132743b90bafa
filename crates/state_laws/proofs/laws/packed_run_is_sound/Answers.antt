use Rattle.std.proofs.Common.{[], refl, arith}
use Rattle.machine_defs.specs.Examples.{set_up}
use Rattle.state_laws.proofs.Events.{run-sound}
use Rattle.state_laws.proofs.PackRun.{moments, is_run, starts}
use Rattle.state_laws.proofs.laws.packed_run_is_sound.Goals as goal

pub returns-clause-run : goal.returns-clause-run
returns-clause-run c =
    (moments, is_run, run-sound 8 set_up moments (omega arith, omega arith) starts is_run, refl, refl, refl)

pub returns-clause-start : goal.returns-clause-start
returns-clause-start c = (starts, run-sound 8 set_up [] (omega arith, omega arith) starts tt, refl, refl)
