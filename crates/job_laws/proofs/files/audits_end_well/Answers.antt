use Rattle.command_defs.specs.Ran.{ran_from}
use Rattle.job_laws.proofs.Audits.{audits-leave}
use Rattle.job_laws.proofs.Complete.{audit-end}
use Rattle.job_laws.proofs.files.audits_end_well.Goals as goal

pub returns : goal.returns
returns c w new moment answer heard O r disk =
    audit-end (ran_from w new heard) answer (audits-leave w new moment answer heard O r).by_kind.gives disk
