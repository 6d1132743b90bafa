use Rattle.hail_field.proofs.AllNumbers.{nim_endless}
use Rattle.hail_field.proofs.laws.numbers_are_endless.Goals as goal

pub returns : goal.returns
returns c = nim_endless
