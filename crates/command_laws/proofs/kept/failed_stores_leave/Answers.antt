use Rattle.command_laws.proofs.JobEnds.{put-answers}
use Rattle.command_laws.proofs.Failed.{put-fails, repair-fails, stores-only}
use Rattle.command_laws.proofs.ScrubEnds.{scrub-fails}
use Rattle.command_laws.proofs.kept.failed_stores_leave.Goals as goal

pub returns-clause-put : goal.returns-clause-put
returns-clause-put c name own old new end A is =
    put-fails name old new end (put-answers name own old new end A) is

pub returns-clause-repair : goal.returns-clause-repair
returns-clause-repair c old new end A is = repair-fails old new end A.0 is

pub returns-clause-only : goal.returns-clause-only
returns-clause-only c = stores-only

pub returns-clause-scrub : goal.returns-clause-scrub
returns-clause-scrub c old new end A is = scrub-fails old new end A.0 is
