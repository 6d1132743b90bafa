use Rattle.second_half_laws.proofs.Words.{ap, Worked, relies, contains_in}
use Rattle.second_half_laws.proofs.InRuns.{in_run}
use Rattle.second_half_laws.proofs.InDoubt.{rewritten}
use Rattle.second_half_laws.proofs.laws.repairs_store_columns.Goals as goal

pub returns-clause-stored : goal.returns-clause-stored
returns-clause-stored c limit mark start ms number job j object stripe block h runs kind made none told =
    (in_run limit mark start ms h).rewrote number job j object stripe block runs kind made none told

pub returns-clause-worked : goal.returns-clause-worked
returns-clause-worked c limit mark start ms number job object stripe symbols h runs kind given =
    ((in_run limit mark start ms h).rows number job object stripe symbols runs (ap relies kind)
    (contains_in job.given (Worked object stripe symbols) given)).1

pub returns-clause-in_doubt : goal.returns-clause-in_doubt
returns-clause-in_doubt c limit mark start ms d job j object stripe block h at maker kind made none told =
    rewritten limit mark start h.clean h.tell ms h.run h.calm h.marks d job j object stripe block at maker
    kind made none told
