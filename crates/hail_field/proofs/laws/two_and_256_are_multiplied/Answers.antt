use Rattle.std.proofs.Common.{sym, ◌∙◌, arith}
use Rattle.hail_field.proofs.AllNumbers.{nim_inv_is}
use Rattle.hail_field.proofs.Fermat.{next_times, next_square, two_three, half_of_256}
use Rattle.hail_field.proofs.laws.two_and_256_are_multiplied.Goals as goal

pub returns-clause-premise : goal.returns-clause-premise
returns-clause-premise c = (omega arith, omega arith)

pub returns-clause-inverse : goal.returns-clause-inverse
returns-clause-inverse c = sym (nim_inv_is 2 3 two_three)

pub returns-clause-smaller : goal.returns-clause-smaller
returns-clause-smaller c = next_times 3 200 (omega arith)

pub returns-clause-square : goal.returns-clause-square
returns-clause-square c = next_square 3 ∙ half_of_256
