use Rattle.command_laws.proofs.InitEnds.{init-done, init-well}
use Rattle.command_laws.proofs.inits.inits_set_up.Goals as goal

pub returns-clause-done : goal.returns-clause-done
returns-clause-done c = init-done

pub returns-clause-ends_well : goal.returns-clause-ends_well
returns-clause-ends_well c = init-well
