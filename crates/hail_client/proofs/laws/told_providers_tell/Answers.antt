use Rattle.hail_client.proofs.Fresh.{start-tells}
use Rattle.hail_client.proofs.laws.told_providers_tell.Goals as goal

pub returns : goal.returns
returns c d rs = start-tells d.providers
