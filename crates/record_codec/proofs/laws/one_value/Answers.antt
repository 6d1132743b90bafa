use Rattle.record_codec.proofs.Values.{one_value}
use Rattle.record_codec.proofs.laws.one_value.Goals as goal

pub returns : goal.returns
returns c = one_value
