use Rattle.command_laws.proofs.EndStatuses.{command-ending, never-two}
use Rattle.command_laws.proofs.statuses.commands_end_with_a_status.Goals as goal

pub returns-clause-ending : goal.returns-clause-ending
returns-clause-ending c = command-ending

pub returns-clause-no_usage : goal.returns-clause-no_usage
returns-clause-no_usage c = never-two
