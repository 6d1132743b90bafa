use Rattle.command_laws.proofs.JobEnds.{audit-done, audit-well, audit-order}
use Rattle.command_laws.proofs.ends.audits_count_what_they_hear.Goals as goal

pub returns-clause-done : goal.returns-clause-done
returns-clause-done c old new end A zero = audit-done old new end A.0 zero

pub returns-clause-ends_well : goal.returns-clause-ends_well
returns-clause-ends_well c records old new end A K begins disk sink =
    audit-well records old new end A.0 K begins disk sink

pub returns-clause-ends : goal.returns-clause-ends
returns-clause-ends c old new end A disk sink = audit-order old new end A.0 disk sink
