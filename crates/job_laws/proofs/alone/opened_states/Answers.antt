use Rattle.std.proofs.Common.{refl}
use Rattle.job_laws.proofs.Telling.{opened_state, state-over}
use Rattle.job_laws.proofs.alone.opened_states.Goals as goal

pub returns : goal.returns
returns c old records faults opened =
    (opened_state opened.area records faults old.providers, state-over records faults old opened, refl)
