use Rattle.second_half_laws.proofs.Absent.{own_row, own_symbols}
use Rattle.second_half_laws.proofs.laws.absent_blocks_leave_rows_right.Goals as goal

pub returns-clause-rows : goal.returns-clause-rows
returns-clause-rows c = own_row

pub returns-clause-symbols : goal.returns-clause-symbols
returns-clause-symbols c = own_symbols
