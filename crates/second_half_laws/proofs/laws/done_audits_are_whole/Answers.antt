use Rattle.std.proofs.Common.{refl}
use Rattle.second_half_laws.proofs.Wholes.{audit_running, doubt_audit, came_audit}
use Rattle.second_half_laws.proofs.laws.done_audits_are_whole.Goals as goal

pub returns-clause-in_flight : goal.returns-clause-in_flight
returns-clause-in_flight c limit start ms a id undecided counts job clean run flight is runs =
    audit_running limit start clean ms run a job a.job id undecided counts flight runs refl is

pub returns-clause-in_doubt : goal.returns-clause-in_doubt
returns-clause-in_doubt c limit start ms d id undecided counts clean run in_doubt is =
    doubt_audit limit start clean ms run d id undecided counts in_doubt is

pub returns-clause-came : goal.returns-clause-came
returns-clause-came c limit start m ms id undecided counts clean run came =
    came_audit limit start clean m ms run id undecided counts came
