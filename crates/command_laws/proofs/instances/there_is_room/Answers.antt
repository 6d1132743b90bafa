use Rattle.std.proofs.Common.{refl, arith}
use Rattle.command_laws.proofs.instances.there_is_room.Goals as goal

pub returns-clause-upgrade : goal.returns-clause-upgrade
returns-clause-upgrade c = (refl, omega arith)

pub returns-clause-own : goal.returns-clause-own
returns-clause-own c = (refl, omega arith, refl, refl, omega arith, omega arith)

pub returns-clause-pack : goal.returns-clause-pack
returns-clause-pack c = (refl, refl)
