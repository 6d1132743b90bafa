use Rattle.std.proofs.Common.{arith}
use Rattle.provider_wire.proofs.Framed.{remove_spelled}
use Rattle.provider_wire.proofs.frame.remove_frame.Goals as goal

pub returns : goal.returns
returns c = remove_spelled c.args.object c.begun.result (omega arith) c.begun.ensures.bytes
