use Rattle.column_laws.proofs.Worked.{none-lose}
use Rattle.column_laws.proofs.laws.no_blocks_lose_a_row.Goals as goal

pub returns : goal.returns
returns c = none-lose
