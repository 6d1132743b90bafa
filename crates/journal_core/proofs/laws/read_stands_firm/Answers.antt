use Rattle.journal_core.proofs.AreaStands.{read-firm}
use Rattle.journal_core.proofs.laws.read_stands_firm.Goals as goal

pub returns : goal.returns
returns c = read-firm
