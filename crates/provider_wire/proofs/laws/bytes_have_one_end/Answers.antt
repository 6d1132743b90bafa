use Rattle.provider_wire.proofs.OneEnd.{one_end}
use Rattle.provider_wire.proofs.laws.bytes_have_one_end.Goals as goal

pub returns : goal.returns
returns c = one_end
