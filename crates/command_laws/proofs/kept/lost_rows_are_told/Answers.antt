use Rattle.command_laws.proofs.Failed.{get-loses, repair-loses, rows-only}
use Rattle.command_laws.proofs.ScrubEnds.{scrub-loses}
use Rattle.command_laws.proofs.kept.lost_rows_are_told.Goals as goal

pub returns-clause-get : goal.returns-clause-get
returns-clause-get c name old new end A is = get-loses name old new end A.0 is

pub returns-clause-repair : goal.returns-clause-repair
returns-clause-repair c old new end A is = repair-loses old new end A.0 is

pub returns-clause-only : goal.returns-clause-only
returns-clause-only c = rows-only

pub returns-clause-scrub : goal.returns-clause-scrub
returns-clause-scrub c old new end A is = scrub-loses old new end A.0 is
