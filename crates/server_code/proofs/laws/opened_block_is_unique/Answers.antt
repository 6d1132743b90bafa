use Rattle.server_code.proofs.Linear.{opened_is_one}
use Rattle.server_code.proofs.laws.opened_block_is_unique.Goals as goal

pub returns : goal.returns
returns c = opened_is_one
