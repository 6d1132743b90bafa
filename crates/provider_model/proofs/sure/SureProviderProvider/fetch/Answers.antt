use Rattle.std.proofs.Common.{refl}
use Rattle.provider_model.proofs.sure.SureProviderProvider.fetch.Goals as goal

pub returns-clause-sure : goal.returns-clause-sure
returns-clause-sure c = refl
