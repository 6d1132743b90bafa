use Rattle.command_laws.proofs.AnyDisk.{list-order}
use Rattle.command_laws.proofs.InitEnds.{list-done, list-well}
use Rattle.command_laws.proofs.Emptied.{list-empty}
use Rattle.command_laws.proofs.inits.lists_give_the_files.Goals as goal

pub returns-clause-done : goal.returns-clause-done
returns-clause-done c old new end A done = list-done old new end A.0 done

pub returns-clause-ends_well : goal.returns-clause-ends_well
returns-clause-ends_well c records old new end A K disk sink = list-well records old new end A.0 K disk sink

pub returns-clause-empty : goal.returns-clause-empty
returns-clause-empty c records old new end A K none = list-empty records old new end A.0 K none

pub returns-clause-ends : goal.returns-clause-ends
returns-clause-ends c old new end A sink = list-order old new end A.0 sink
