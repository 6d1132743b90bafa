use Rattle.std.proofs.Common.{◌++◌}
use Rattle.provider_wire.proofs.BadBytes.{bad-grows, bad-none}
use Rattle.provider_wire.proofs.laws.bad_bytes_begin_none.Goals as goal

pub returns : goal.returns
returns c = λ bytes more bad. bad-none (bytes ++ more) (bad-grows bytes more bad)
