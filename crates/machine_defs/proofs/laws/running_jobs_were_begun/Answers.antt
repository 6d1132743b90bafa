use Rattle.machine_defs.proofs.Began.{was_begun, is_begun}
use Rattle.machine_defs.proofs.laws.running_jobs_were_begun.Goals as goal

pub returns-clause-job : goal.returns-clause-job
returns-clause-job c limit start ms number job clean run runs =
    was_begun limit start clean ms run number job runs

pub returns-clause-begin : goal.returns-clause-begin
returns-clause-begin c limit start later before m number job clean run out none runs =
    is_begun limit start clean later before m run number job out none runs
