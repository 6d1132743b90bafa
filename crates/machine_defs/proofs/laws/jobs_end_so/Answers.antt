use Rattle.machine_defs.proofs.JobEnds.{begun_ends_so}
use Rattle.machine_defs.proofs.laws.jobs_end_so.Goals as goal

pub returns : goal.returns
returns c = begun_ends_so
