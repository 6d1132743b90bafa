use Rattle.run_laws.proofs.FirstHalf.{first_half}
use Rattle.run_laws.proofs.laws.first_half.Goals as goal

pub returns : goal.returns
returns c = first_half
