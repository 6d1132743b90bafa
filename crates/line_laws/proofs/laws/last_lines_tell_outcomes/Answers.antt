use Rattle.line_laws.proofs.LastLines.{last-outcome, last-told}
use Rattle.line_laws.proofs.laws.last_lines_tell_outcomes.Goals as goal

pub returns-clause-written : goal.returns-clause-written
returns-clause-written c = last-outcome

pub returns-clause-told : goal.returns-clause-told
returns-clause-told c = last-told
