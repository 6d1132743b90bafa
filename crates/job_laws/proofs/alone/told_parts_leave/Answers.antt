use Rattle.job_laws.proofs.Parts.{part-left}
use Rattle.job_laws.proofs.alone.told_parts_leave.Goals as goal

pub returns : goal.returns
returns c records name bytes own old new R spelled named same A =
    part-left records name bytes own old new R spelled named same A
