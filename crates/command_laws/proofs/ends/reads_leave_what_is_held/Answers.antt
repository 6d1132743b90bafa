use Rattle.command_laws.proofs.JobEnds.{upgrade-holds, get-holds, list-holds, audit-holds}
use Rattle.command_laws.proofs.PackEnds.{pack-holds}
use Rattle.command_laws.proofs.ends.reads_leave_what_is_held.Goals as goal

pub returns-clause-get : goal.returns-clause-get
returns-clause-get c name old new end A = get-holds name old new end A.0

pub returns-clause-list : goal.returns-clause-list
returns-clause-list c old new end A = list-holds old new end A.0

pub returns-clause-audit : goal.returns-clause-audit
returns-clause-audit c old new end A = audit-holds old new end A.0

pub returns-clause-upgrade : goal.returns-clause-upgrade
returns-clause-upgrade c old new end A = upgrade-holds old new end A.0

pub returns-clause-pack : goal.returns-clause-pack
returns-clause-pack c old new end A = pack-holds old new end A.0
