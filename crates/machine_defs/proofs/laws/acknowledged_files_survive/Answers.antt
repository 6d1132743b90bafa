use Rattle.machine_defs.proofs.Survive.{survives}
use Rattle.machine_defs.proofs.laws.acknowledged_files_survive.Goals as goal

pub returns : goal.returns
returns c = survives
