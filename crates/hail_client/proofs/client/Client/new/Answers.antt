use Rattle.hail_client.proofs.Standing.{start-stands, continued-stands}
use Rattle.hail_client.proofs.client.Client.new.Goals as goal

pub returns-clause-start : goal.returns-clause-start
returns-clause-start c = start-stands

pub returns-clause-continued : goal.returns-clause-continued
returns-clause-continued c = continued-stands
