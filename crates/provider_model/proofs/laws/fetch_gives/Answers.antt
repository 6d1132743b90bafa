use Rattle.provider_model.proofs.Fetches.{given}
use Rattle.provider_model.proofs.laws.fetch_gives.Goals as goal

pub returns : goal.returns
returns c = given
