use Rattle.effect_laws.proofs.Drops.{dropped_out}
use Rattle.effect_laws.proofs.laws.dropped_names_are_out.Goals as goal

pub returns : goal.returns
returns c = dropped_out
