use Rattle.hail_top.proofs.Carried.{carried-as}
use Rattle.hail_top.proofs.top.carry.Goals as goal

pub returns-in-Replay-clause-answers : goal.returns-in-Replay-clause-answers
returns-in-Replay-clause-answers g c = carried-as _ _ _ _ _ c.in-Replay.is c.replay_source.ensures.answers

pub returns-in-Trial-clause-answers : goal.returns-in-Trial-clause-answers
returns-in-Trial-clause-answers g c = carried-as _ _ _ _ _ c.in-Trial.is
    (c.do_trial.ensures.answers (g.S.Source.left c.args.source.now) (g.S.Source.faults c.args.source.now))
