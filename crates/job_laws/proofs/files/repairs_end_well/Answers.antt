use Rattle.job_laws.proofs.Words.{setup_in, ran_from}
use Rattle.job_laws.proofs.Repairs.{repairs-leave}
use Rattle.job_laws.proofs.Complete.{shape-of}
use Rattle.job_laws.proofs.Mended.{repair-end}
use Rattle.job_laws.proofs.files.repairs_end_well.Goals as goal

pub returns : goal.returns
unfolding setup_in
returns c w new moment answer heard bytes O r disk stores safe =
    repair-end (ran_from w new heard) O.rest.accepted (shape-of w new heard O) bytes answer
    (repairs-leave w new moment answer heard O r).by_kind.0 disk stores safe
