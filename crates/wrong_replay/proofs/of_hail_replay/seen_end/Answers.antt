use Rattle.wrong_replay.proofs.of_hail_replay.seen_end.Goals as goal

pub returns : goal.returns
returns c = c.in_ok-seen.ensures
