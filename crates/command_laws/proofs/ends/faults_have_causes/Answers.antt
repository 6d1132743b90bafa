use Rattle.command_laws.proofs.Causes.{store-causes, init-causes}
use Rattle.command_laws.proofs.RowCauses.{row-causes}
use Rattle.command_laws.proofs.ends.faults_have_causes.Goals as goal

pub returns-clause-store : goal.returns-clause-store
returns-clause-store c command old new end A opens = store-causes old new end command A opens

pub returns-clause-init : goal.returns-clause-init
returns-clause-init c numbers old new end A = init-causes old new end numbers A

pub returns-clause-row : goal.returns-clause-row
returns-clause-row c n l b seen old new end A = row-causes n l b seen old new end A.0
