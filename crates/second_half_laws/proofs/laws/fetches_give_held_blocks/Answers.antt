use Rattle.second_half_laws.proofs.Fetches.{gave_fetched}
use Rattle.second_half_laws.proofs.laws.fetches_give_held_blocks.Goals as goal

pub returns : goal.returns
returns c = gave_fetched
