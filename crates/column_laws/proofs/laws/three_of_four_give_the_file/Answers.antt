use Rattle.column_laws.specs.Example.{example}
use Rattle.column_laws.proofs.Worked.{column-right, one-wrong, three-open, example-shape, three-accepted, three-give}
use Rattle.column_laws.proofs.laws.three_of_four_give_the_file.Goals as goal

pub returns-clause-shape : goal.returns-clause-shape
returns-clause-shape c = example-shape

pub returns-clause-right : goal.returns-clause-right
returns-clause-right c = λ master bytes. column-right (example master) bytes 0 0

pub returns-clause-wrong : goal.returns-clause-wrong
returns-clause-wrong c = λ master bytes. one-wrong (example master) bytes

pub returns-clause-opens : goal.returns-clause-opens
returns-clause-opens c = λ master bytes. three-open (example master) bytes

pub returns-clause-accepted : goal.returns-clause-accepted
returns-clause-accepted c = three-accepted

pub returns-clause-gives : goal.returns-clause-gives
returns-clause-gives c = three-give
