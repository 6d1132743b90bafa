use Rattle.scrub_laws.proofs.Begins.{none-refused}
use Rattle.scrub_laws.proofs.alone.open_vaults_refuse_no_scrub.Goals as goal

pub returns : goal.returns
returns c = none-refused
