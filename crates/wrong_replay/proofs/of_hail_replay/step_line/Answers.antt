use Rattle.wrong_replay.proofs.of_hail_replay.step_line.Goals as goal

pub returns : goal.returns
returns c = c.step_line.ensures
