use Rattle.aggregate.proofs.RightRow.{right_row, IsRightRow-right_row}
use Rattle.aggregate.proofs.laws.right_answers_are_a_row.Goals as goal

pub returns : goal.returns
returns c o bytes challenge some size =
    (right_row o bytes challenge, IsRightRow-right_row o bytes challenge some size)
