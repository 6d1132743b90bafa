use Rattle.column_laws.proofs.Exclusive.{exclusive}
use Rattle.column_laws.proofs.laws.stripe_gives_or_loses.Goals as goal

pub returns : goal.returns
returns c = exclusive
