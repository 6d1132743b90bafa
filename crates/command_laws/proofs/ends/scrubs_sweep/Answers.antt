use Rattle.command_laws.proofs.ScrubEnds.{scrub-done, scrub-well, scrub-order}
use Rattle.command_laws.proofs.ScrubFiles.{scrub-right}
use Rattle.command_laws.proofs.ends.scrubs_sweep.Goals as goal

pub returns-clause-done : goal.returns-clause-done
returns-clause-done c old new end A done = scrub-done old new end A.0 done

pub returns-clause-ends_well : goal.returns-clause-ends_well
returns-clause-ends_well c records old new end bytes A K disk stores sink safe =
    scrub-well records old new end bytes A.0 K disk stores sink safe

pub returns-clause-right : goal.returns-clause-right
returns-clause-right c name bytes records file j old new end A K done in_effect size few below =
    scrub-right name bytes records file j old new end A.0 K done in_effect size few below

pub returns-clause-ends : goal.returns-clause-ends
returns-clause-ends c old new end A stores sink = scrub-order old new end A.0 stores sink
