use Rattle.std.proofs.Common.{refl}
use Rattle.second_half_laws.proofs.InitRun.{unset, init, is_start, is_run}
use Rattle.second_half_laws.proofs.runs.a_store_is_set_up.Goals as goal

pub returns : goal.returns
returns c = (unset, init, is_start, is_run, refl, refl)
