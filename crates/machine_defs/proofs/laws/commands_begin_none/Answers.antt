use Rattle.machine_defs.proofs.Untouched.{steps_begin_none, commands_begin_none}
use Rattle.machine_defs.proofs.laws.commands_begin_none.Goals as goal

pub returns-clause-commands : goal.returns-clause-commands
returns-clause-commands c = commands_begin_none

pub returns-clause-steps : goal.returns-clause-steps
returns-clause-steps c = steps_begin_none
