use Rattle.command_laws.proofs.JobEnds.{put-answers}
use Rattle.command_laws.proofs.PackEnds.{pack-fetches}
use Rattle.command_laws.proofs.Failed.{upgrade-fetches, put-fetches, drop-fetches, audit-fetches, list-fetches, init-fetches}
use Rattle.command_laws.proofs.kept.others_fetch_nothing.Goals as goal

pub returns-clause-put : goal.returns-clause-put
returns-clause-put c name own old new end A = put-fetches name old new end
    (put-answers name own old new end A)

pub returns-clause-drop : goal.returns-clause-drop
returns-clause-drop c name old new end A = drop-fetches name old new end A.0

pub returns-clause-audit : goal.returns-clause-audit
returns-clause-audit c old new end A = audit-fetches old new end A.0

pub returns-clause-list : goal.returns-clause-list
returns-clause-list c old new end A = list-fetches old new end A.0

pub returns-clause-init : goal.returns-clause-init
returns-clause-init c = init-fetches

pub returns-clause-upgrade : goal.returns-clause-upgrade
returns-clause-upgrade c old new end A = upgrade-fetches old new end A.0

pub returns-clause-pack : goal.returns-clause-pack
returns-clause-pack c old new end A = pack-fetches old new end A.0
