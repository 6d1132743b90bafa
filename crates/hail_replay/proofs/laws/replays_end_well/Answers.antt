use Rattle.hail_replay.proofs.EndsWell.{replay-ends}
use Rattle.hail_replay.proofs.laws.replays_end_well.Goals as goal

pub returns : goal.returns
returns c = λ text commands old new end answers source spells few reads writes. replay-ends
    c.bad_line_is_in_no_schedule.ensures text commands old new end source spells few reads writes answers
