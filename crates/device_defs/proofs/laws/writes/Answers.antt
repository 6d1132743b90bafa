use Rattle.device_defs.proofs.WriteLaws.{reads-written, loose_written, loose_as_before}
use Rattle.device_defs.proofs.laws.writes.Goals as goal

pub returns-clause-reads : goal.returns-clause-reads
returns-clause-reads c = reads-written

pub returns-clause-loose : goal.returns-clause-loose
returns-clause-loose c = loose_written

pub returns-clause-as_before : goal.returns-clause-as_before
returns-clause-as_before c = loose_as_before
