use Rattle.command_words.proofs.word.read_three.Goals as goal

pub returns-in_err-read_number : goal.returns-in_err-read_number
returns-in_err-read_number c =
    rw c.from_residual.ensures (λ x y z first second third. c.in_err-read_number.ensures x first)

pub returns-in_err-read_number-2 : goal.returns-in_err-read_number-2
returns-in_err-read_number-2 c = rw c.from_residual-in_err-read_number-2.ensures
    (λ x y z first second third. c.in_err-read_number-2.ensures y second)

pub returns-in_err-read_number-3 : goal.returns-in_err-read_number-3
returns-in_err-read_number-3 c = rw c.from_residual-in_err-read_number-3.ensures
    (λ x y z first second third. c.in_err-read_number-3.ensures z third)

pub returns : goal.returns
returns c = (c.in_ok-read_number.ensures, c.in_ok-read_number-2.ensures, c.in_ok-read_number-3.ensures)
