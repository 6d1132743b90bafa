use Rattle.journal_core.proofs.Turning.{keeps-records}
use Rattle.journal_core.proofs.laws.appends_are_atomic.Goals as goal

pub returns : goal.returns
returns c = keeps-records
