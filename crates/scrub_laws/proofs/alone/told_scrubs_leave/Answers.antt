use Rattle.scrub_laws.proofs.Telling.{scrubbed-alone}
use Rattle.scrub_laws.proofs.alone.told_scrubs_leave.Goals as goal

pub returns : goal.returns
returns c = scrubbed-alone
