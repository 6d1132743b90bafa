use Rattle.column_laws.proofs.RightBlocks.{opens-right, symbol-right}
use Rattle.column_laws.proofs.laws.right_block_opens_to_column.Goals as goal

pub returns-clause-opens : goal.returns-clause-opens
returns-clause-opens c = opens-right

pub returns-clause-symbols : goal.returns-clause-symbols
returns-clause-symbols c = symbol-right
