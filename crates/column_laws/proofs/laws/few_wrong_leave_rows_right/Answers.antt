use Rattle.column_laws.proofs.RightRows.{row-right, symbols-right, given-right}
use Rattle.column_laws.proofs.Exclusive.{none-lost}
use Rattle.column_laws.proofs.laws.few_wrong_leave_rows_right.Goals as goal

pub returns-clause-rows : goal.returns-clause-rows
returns-clause-rows c = row-right

pub returns-clause-symbols : goal.returns-clause-symbols
returns-clause-symbols c = symbols-right

pub returns-clause-given : goal.returns-clause-given
returns-clause-given c = given-right

pub returns-clause-none_lost : goal.returns-clause-none_lost
returns-clause-none_lost c = none-lost
