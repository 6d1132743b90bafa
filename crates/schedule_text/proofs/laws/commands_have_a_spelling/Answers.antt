use Rattle.schedule_text.proofs.Spelled.{spelling_is}
use Rattle.schedule_text.proofs.laws.commands_have_a_spelling.Goals as goal

pub returns : goal.returns
returns c = λ commands can. spelling_is commands can
