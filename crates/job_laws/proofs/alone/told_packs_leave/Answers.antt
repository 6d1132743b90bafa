use Rattle.job_laws.proofs.Packs.{packed-alone}
use Rattle.job_laws.proofs.alone.told_packs_leave.Goals as goal

pub returns : goal.returns
returns c records answer old new R same A = packed-alone records answer old new R same A
