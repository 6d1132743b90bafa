use Rattle.epoch_laws.proofs.Running.{so-far}
use Rattle.epoch_laws.proofs.laws.running_scrubs_have_swept.Goals as goal

pub returns : goal.returns
returns c limit start ms scrub clean tell run calm at = so-far limit start clean tell ms scrub run calm at
