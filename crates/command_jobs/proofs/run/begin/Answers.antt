use Rattle.command_jobs.proofs.run.begin.Goals as goal

pub returns-in-Get-clause-machine : goal.returns-in-Get-clause-machine
returns-in-Get-clause-machine c = rw c.in-Get.is c.begin_get.ensures.machine

pub returns-in-Drop-clause-machine : goal.returns-in-Drop-clause-machine
returns-in-Drop-clause-machine c = rw c.in-Drop.is c.begin_drop.ensures.machine

pub returns-in-Audit-clause-machine : goal.returns-in-Audit-clause-machine
returns-in-Audit-clause-machine c = rw c.in-Audit.is c.begin_audit.ensures.machine

pub returns-in-Repair-clause-machine : goal.returns-in-Repair-clause-machine
returns-in-Repair-clause-machine c = rw c.in-Repair.is c.begin_repair.ensures.machine

pub returns-in-Upgrade-clause-machine : goal.returns-in-Upgrade-clause-machine
returns-in-Upgrade-clause-machine c = rw c.in-Upgrade.is c.begin_upgrade.ensures.machine
