use Rattle.std.proofs.Common.{refl}
use Rattle.machine_defs.proofs.PutRun.{moments, is_run, transcript}
use Rattle.machine_defs.proofs.runs.put_is_stored.Goals as goal

pub returns : goal.returns
returns c = (moments, is_run, transcript, refl, refl)
