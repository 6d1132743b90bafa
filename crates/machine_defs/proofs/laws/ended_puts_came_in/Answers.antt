use Rattle.machine_defs.proofs.Acknowledged.{acknowledged}
use Rattle.machine_defs.proofs.laws.ended_puts_came_in.Goals as goal

pub returns : goal.returns
returns c = acknowledged
