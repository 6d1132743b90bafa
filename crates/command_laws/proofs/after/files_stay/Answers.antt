use Rattle.command_laws.proofs.JobEnds.{put-answers}
use Rattle.command_laws.proofs.FilesStay.{put-has, next-has}
use Rattle.command_laws.proofs.FilesKept.{reads-have, refused-has, others-have, repair-has}
use Rattle.command_laws.proofs.ScrubFiles.{scrub-has, scrub-keeps}
use Rattle.command_laws.proofs.PutInEffect.{put-in-effect}
use Rattle.command_laws.proofs.RepairInEffect.{repair-in-effect}
use Rattle.command_laws.proofs.after.files_stay.Goals as goal

pub returns-clause-put : goal.returns-clause-put
returns-clause-put c name bytes own records spoilt old new end A done K source tells =
    put-has name bytes own records spoilt old new end (put-answers name own old new end A) done K source tells

pub returns-clause-put_in_effect : goal.returns-clause-put_in_effect
returns-clause-put_in_effect c name bytes own records spoilt old new next end A S source N F tells =
    put-in-effect name bytes own records spoilt old new next end S N F tells
    (put-answers name own old new end A) source

pub returns-clause-next : goal.returns-clause-next
returns-clause-next c = next-has

pub returns-clause-reads : goal.returns-clause-reads
returns-clause-reads c = reads-have

pub returns-clause-refused : goal.returns-clause-refused
returns-clause-refused c = refused-has

pub returns-clause-others : goal.returns-clause-others
returns-clause-others c = others-have

pub returns-clause-repair : goal.returns-clause-repair
returns-clause-repair c name bytes records due spoilt old new end A done K is_due H steady few tells =
    repair-has name bytes records due spoilt old new end A.0 done K is_due H steady few tells

pub returns-clause-repair_in_effect : goal.returns-clause-repair_in_effect
returns-clause-repair_in_effect c name bytes records due spoilt old new next end A S is_due N F H steady few tells =
    repair-in-effect name bytes records due spoilt old new next end S is_due N F H steady few tells A.0

pub returns-clause-scrub : goal.returns-clause-scrub
returns-clause-scrub c name bytes records spoilt untold old new end A done K H steady few tells =
    scrub-has name bytes records spoilt untold old new end A.0 done K H steady few tells

pub returns-clause-scrub_harms_none : goal.returns-clause-scrub_harms_none
returns-clause-scrub_harms_none c name bytes records spoilt old new end A K H steady few =
    scrub-keeps name bytes records spoilt old new end K H steady few A.0
