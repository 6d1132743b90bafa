use Rattle.command_laws.proofs.AnyDisk.{repair-order}
use Rattle.command_laws.proofs.JobEnds.{repair-done, repair-well}
use Rattle.command_laws.proofs.Anew.{repair-right}
use Rattle.command_laws.proofs.ends.repairs_write_anew.Goals as goal

pub returns-clause-done : goal.returns-clause-done
returns-clause-done c old new end A zero = repair-done old new end A.0 zero

pub returns-clause-ends_well : goal.returns-clause-ends_well
returns-clause-ends_well c records old new end bytes A K begins disk stores sink safe =
    repair-well records old new end bytes A.0 K begins disk stores sink safe

pub returns-clause-right : goal.returns-clause-right
returns-clause-right c name bytes records file due j old new end A K done is_due in_effect size few below flagged =
    repair-right name bytes records file due j old new end A.0 K done is_due in_effect size few below flagged

pub returns-clause-ends : goal.returns-clause-ends
returns-clause-ends c old new end A disk stores sink = repair-order old new end A.0 disk stores sink
