use Rattle.outcome_laws.proofs.Listings.{lists_files, lists_none}
use Rattle.outcome_laws.proofs.laws.listings_give_the_files.Goals as goal

pub returns-clause-opened : goal.returns-clause-opened
returns-clause-opened c = lists_files

pub returns-clause-closed : goal.returns-clause-closed
returns-clause-closed c = lists_none
