use Rattle.answer_laws.proofs.Answering.{disk-answered}
use Rattle.answer_laws.proofs.laws.any_disk_is_answered_for.Goals as goal

pub returns : goal.returns
returns c = disk-answered
