use Rattle.record_defs.proofs.PackLaws.{packed_are, packed_is_idle}
use Rattle.record_defs.proofs.laws.packed_journals_are_alike.Goals as goal

pub returns-clause-accepted : goal.returns-clause-accepted
returns-clause-accepted c rs s a set second = (packed_are rs a s set second).0

pub returns-clause-alike : goal.returns-clause-alike
returns-clause-alike c rs s a set second = (packed_are rs a s set second).1

pub returns-clause-unstarted : goal.returns-clause-unstarted
returns-clause-unstarted c rs id = (packed_is_idle rs).0 id

pub returns-clause-idle : goal.returns-clause-idle
returns-clause-idle c rs = (packed_is_idle rs).1
