use Rattle.wrong_replay.proofs.of_hail_replay.pack_answer_line.Goals as goal

pub returns : goal.returns
returns c = c.pack_answer_line.ensures
