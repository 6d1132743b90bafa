use Rattle.wrong_replay.proofs.of_hail_replay.reopen_line.Goals as goal

pub returns : goal.returns
returns c = c.reopen_line-line.ensures
