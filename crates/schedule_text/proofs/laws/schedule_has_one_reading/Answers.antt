use Rattle.schedule_text.specs.Schedules.{lines}
use Rattle.schedule_text.proofs.Texts.{AreLines-once}
use Rattle.schedule_text.proofs.laws.schedule_has_one_reading.Goals as goal

pub returns : goal.returns
returns c = λ text commands others first second. AreLines-once (lines text) commands others first second
