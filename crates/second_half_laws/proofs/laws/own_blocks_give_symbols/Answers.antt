use Rattle.second_half_laws.proofs.GivesRight.{own_give}
use Rattle.second_half_laws.proofs.laws.own_blocks_give_symbols.Goals as goal

pub returns : goal.returns
returns c = own_give
