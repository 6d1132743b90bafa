use Rattle.column_laws.proofs.UniqueLaws.{opens-unique}
use Rattle.column_laws.proofs.laws.seen_block_opens_to_one_thing.Goals as goal

pub returns : goal.returns
returns c = opens-unique
