use Rattle.headline.proofs.Parts.{headline}
use Rattle.headline.proofs.laws.every_run_keeps_the_headline.Goals as goal

pub returns : goal.returns
returns c = headline
