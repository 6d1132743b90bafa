use Rattle.std.proofs.Common.{refl}
use Rattle.packed_laws.proofs.laws.raised_records_are_short.Goals as goal

pub returns-clause-accepted : goal.returns-clause-accepted
returns-clause-accepted c = (refl, (refl, (refl, (refl, (refl, (refl, (refl, (refl, tt))))))))
