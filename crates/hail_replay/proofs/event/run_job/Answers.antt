use Rattle.std.proofs.Common.{sym, ◌∙◌, arith}
use Rattle.hail_replay.proofs.Performing.{ran, not-ran}
use Rattle.hail_replay.proofs.event.run_job.Goals as goal

pub returns-then-is_open : goal.returns-then-is_open
returns-then-is_open g c =
    record {
      performed = ran c.args.job _ _ _ _ c.run.result c.requires.standing
          (sym c.is_open.ensures ∙ c.if-is_open.true) c.run.ensures.tells c.run.ensures.machine;
    }

pub returns-else-is_open : goal.returns-else-is_open
returns-else-is_open g c =
    record {
      performed = not-ran c.args.job _ _ (let r = c.ranges.job.fits in
          omega (arith, r)) c.requires.standing (sym c.is_open.ensures ∙ c.if-is_open.false);
    }
