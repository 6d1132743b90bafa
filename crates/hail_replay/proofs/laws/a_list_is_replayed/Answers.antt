use Rattle.hail_replay.proofs.EndsWell.{list-spelled, list-replayed, trial-refused, closed-told}
use Rattle.hail_replay.proofs.laws.a_list_is_replayed.Goals as goal

pub returns-clause-spells : goal.returns-clause-spells
returns-clause-spells c = list-spelled

pub returns-clause-replay : goal.returns-clause-replay
returns-clause-replay c = list-replayed

pub returns-clause-trial : goal.returns-clause-trial
returns-clause-trial c = trial-refused

pub returns-clause-told : goal.returns-clause-told
returns-clause-told c = closed-told
