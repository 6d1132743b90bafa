use Rattle.hail_replay.proofs.schedule.replay.Goals as goal

pub returns-clause-runs : goal.returns-clause-runs
returns-clause-runs g c = c.replay_events-status.ensures.runs

pub returns-clause-ends : goal.returns-clause-ends
returns-clause-ends g c = c.replay_events-status.ensures.ends
