use Rattle.std.proofs.Common.{length}
use Rattle.machine_defs.specs.Runs.{now}
use Rattle.machine_defs.proofs.Events.{changes}
use Rattle.machine_defs.proofs.Numbers.{objects, audits, next_of_records, facts}
use Rattle.machine_defs.proofs.laws.numbers_never_fall.Goals as goal

pub returns-clause-objects : goal.returns-clause-objects
returns-clause-objects c limit start m ms clean run = next_of_records objects (now start ms) m.state
    (facts objects limit start clean ms run.2).written (changes limit (length ms) (now start ms) m.event
    m.outcome m.state (facts objects limit start clean ms run.2).idle run.1).records

pub returns-clause-audits : goal.returns-clause-audits
returns-clause-audits c limit start m ms clean run = next_of_records audits (now start ms) m.state
    (facts audits limit start clean ms run.2).written (changes limit (length ms) (now start ms) m.event
    m.outcome m.state (facts audits limit start clean ms run.2).idle run.1).records
