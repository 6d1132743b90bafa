use Rattle.wrong_replay.proofs.of_hail_replay.scrub_answer_line.Goals as goal

pub returns : goal.returns
returns c = c.scrub_answer_line.ensures
