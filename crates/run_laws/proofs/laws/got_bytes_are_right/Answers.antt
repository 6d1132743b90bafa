use Rattle.run_laws.proofs.FirstHalf.{got_right}
use Rattle.run_laws.proofs.laws.got_bytes_are_right.Goals as goal

pub returns : goal.returns
returns c = got_right
