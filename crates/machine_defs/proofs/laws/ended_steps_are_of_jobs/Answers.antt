use Rattle.std.proofs.Common.{length}
use Rattle.machine_defs.specs.Runs.{now}
use Rattle.machine_defs.proofs.Began.{ended_job}
use Rattle.machine_defs.proofs.Lone.{ended_of_kind}
use Rattle.machine_defs.proofs.laws.ended_steps_are_of_jobs.Goals as goal

pub returns-clause-well : goal.returns-clause-well
returns-clause-well c limit start m ms number answer run event outcome good = ended_job limit (length ms)
    (now start ms) m.event m.outcome m.state number answer good event outcome run.1

pub returns-clause-begun : goal.returns-clause-begun
returns-clause-begun c = ended_of_kind
