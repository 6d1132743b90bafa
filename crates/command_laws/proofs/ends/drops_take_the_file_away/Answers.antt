use Rattle.command_laws.proofs.JobEnds.{drop-done, drop-well, drop-order}
use Rattle.command_laws.proofs.ends.drops_take_the_file_away.Goals as goal

pub returns-clause-done : goal.returns-clause-done
returns-clause-done c name old new end A zero = drop-done name old new end A.0 zero

pub returns-clause-ends_well : goal.returns-clause-ends_well
returns-clause-ends_well c name records old new end A K begins disk sink =
    drop-well name records old new end A.0 K begins disk sink

pub returns-clause-ends : goal.returns-clause-ends
returns-clause-ends c name old new end A disk sink = drop-order name old new end A.0 disk sink
