use Rattle.second_half_laws.proofs.GetFetches.{got_fetched, lost_fetched}
use Rattle.second_half_laws.proofs.laws.ended_gets_fetched.Goals as goal

pub returns-clause-with_bytes : goal.returns-clause-with_bytes
returns-clause-with_bytes c = got_fetched

pub returns-clause-is_lost : goal.returns-clause-is_lost
returns-clause-is_lost c = lost_fetched
