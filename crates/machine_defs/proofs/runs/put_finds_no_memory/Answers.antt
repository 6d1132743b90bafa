use Rattle.std.proofs.Common.{refl}
use Rattle.machine_defs.proofs.Words.{actions_of}
use Rattle.machine_defs.proofs.runs.put_finds_no_memory.Goals as goal

pub returns : goal.returns
unfolding actions_of
returns c = refl
