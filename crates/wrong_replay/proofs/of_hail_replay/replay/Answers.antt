use Rattle.wrong_replay.proofs.of_hail_replay.replay.Goals as goal

pub returns : goal.returns
returns g c = record { runs = c.replay-replayed.ensures.runs; ends = c.replay-replayed.ensures.ends }
