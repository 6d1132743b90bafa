use Rattle.std.proofs.Common.{[], refl, arith}
use Rattle.damage_run.specs.Words.{actions_of, setup_in, IsScrubCalm, set_up}
use Rattle.damage_run.specs.Schedule.{name}
use Rattle.damage_run.proofs.CalmRun.{tell}
use Rattle.damage_run.proofs.Told.{mine}
use Rattle.upgrade_run.proofs.Run.{moments, outright, scrub_calm}
use Rattle.fault_run.proofs.laws.a_finished_scrub_is_a_mark.Goals as goal

pub returns : goal.returns
unfolding setup_in actions_of
returns c = (let law = c.finished_scrubs_are_marks.ensures in
    let calm : IsScrubCalm set_up moments =
    scrub_calm moments outright.run (assumption (mine 0)) (omega arith) in
    let exact = law.exact 8 set_up [] moments outright.clean tell outright.run calm in (
      moments,
      outright,
      calm,
      refl,
      law.marks 8 set_up moments outright.clean tell outright.run calm,
      law.half 8 set_up moments outright.clean tell outright.run calm,
      exact,
      refl,
      refl,
      exact name (record { name = name; id = 1; size = 1; profile = 1 }) 0 0 refl (omega arith) (omega arith)
          refl,
    ))
