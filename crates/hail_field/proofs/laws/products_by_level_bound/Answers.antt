use Rattle.hail_field.proofs.Fermat.{next_times, next_square}
use Rattle.hail_field.proofs.laws.products_by_level_bound.Goals as goal

pub returns-clause-smaller : goal.returns-clause-smaller
returns-clause-smaller c = λ level x below. next_times level x below

pub returns-clause-square : goal.returns-clause-square
returns-clause-square c = λ level. next_square level
