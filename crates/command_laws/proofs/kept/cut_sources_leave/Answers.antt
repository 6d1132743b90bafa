use Rattle.command_laws.proofs.JobEnds.{put-answers, long-put}
use Rattle.command_laws.proofs.CutSources.{source-told, long-told}
use Rattle.command_laws.proofs.kept.cut_sources_leave.Goals as goal

pub returns-clause-source_fault : goal.returns-clause-source_fault
returns-clause-source_fault c = source-told

pub returns-clause-too_long : goal.returns-clause-too_long
returns-clause-too_long c = long-told

pub returns-clause-ends_well : goal.returns-clause-ends_well
returns-clause-ends_well c name bytes own records old new end A =
    long-put name bytes own records old new end (put-answers name own old new end A)
