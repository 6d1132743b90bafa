use Rattle.schedule_text.proofs.Texts.{first_bad-once}
use Rattle.schedule_text.proofs.laws.first_bad_line_is_one.Goals as goal

pub returns : goal.returns
returns c = λ text number other first second. first_bad-once text number other first second
