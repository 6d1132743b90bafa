use Rattle.line_laws.proofs.Outcomes.{lines-tell}
use Rattle.line_laws.proofs.laws.lines_tell_outcomes.Goals as goal

pub returns : goal.returns
returns c = lines-tell
