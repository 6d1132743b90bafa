use Rattle.second_half_laws.proofs.Mended.{mended_mark}
use Rattle.second_half_laws.proofs.laws.mended_stores_have_a_mark.Goals as goal

pub returns : goal.returns
returns c = mended_mark
