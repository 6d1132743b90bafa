use Rattle.machine_defs.proofs.Damaged.{both_only, steps_damage_none, commands_damage}
use Rattle.machine_defs.proofs.laws.commands_damage_only.Goals as goal

pub returns-clause-commands : goal.returns-clause-commands
returns-clause-commands c = commands_damage

pub returns-clause-steps : goal.returns-clause-steps
returns-clause-steps c = steps_damage_none

pub returns-clause-both : goal.returns-clause-both
returns-clause-both c = both_only
