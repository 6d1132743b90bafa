use Rattle.wrong_replay.proofs.of_hail_replay.answer_line.Goals as goal

pub returns : goal.returns
returns c = c.answer_line.ensures
