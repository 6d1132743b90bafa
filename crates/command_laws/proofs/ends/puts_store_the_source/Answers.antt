use Rattle.command_laws.proofs.JobEnds.{put-answers, put-done, put-well, put-order}
use Rattle.command_laws.proofs.ends.puts_store_the_source.Goals as goal

pub returns-clause-done : goal.returns-clause-done
returns-clause-done c name own old new end A zero =
    put-done name own old new end (put-answers name own old new end A) zero

pub returns-clause-ends_well : goal.returns-clause-ends_well
returns-clause-ends_well c name bytes own records old new end A K is begins disk stores source sink =
    put-well name bytes own records old new end (put-answers name own old new end A) K is begins disk stores
    source sink

pub returns-clause-ends : goal.returns-clause-ends
returns-clause-ends c name own old new end A disk stores source sink =
    put-order name own old new end (put-answers name own old new end A) disk stores source sink
