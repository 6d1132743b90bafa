use Rattle.record_defs.proofs.Words.{refl, four, raised}
use Rattle.record_defs.proofs.PackLaws.{packed_are}
use Rattle.record_defs.proofs.laws.raised_records_are_packed.Goals as goal

pub returns-clause-accepted : goal.returns-clause-accepted
returns-clause-accepted c = (refl, (refl, (refl, (refl, (refl, (refl, (refl, (refl, tt))))))))

pub returns-clause-packed : goal.returns-clause-packed
returns-clause-packed c = (packed_are raised (returns-clause-accepted c) four refl refl).0

pub returns-clause-alike : goal.returns-clause-alike
returns-clause-alike c = (packed_are raised (returns-clause-accepted c) four refl refl).1
