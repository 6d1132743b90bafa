use Rattle.provider_wire.proofs.Determined.{counts_kept}
use Rattle.provider_wire.proofs.laws.counts_never_fall.Goals as goal

pub returns : goal.returns
returns c = counts_kept
