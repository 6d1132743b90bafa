use Rattle.line_laws.proofs.Happened.{happened}
use Rattle.line_laws.proofs.laws.events_write_one_line.Goals as goal

pub returns : goal.returns
returns c limit moment old new event outcome = happened old new limit moment event outcome
