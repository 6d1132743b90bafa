use Rattle.std.proofs.Common.{arith}
use Rattle.provider_wire.proofs.Framed.{fetch_spelled}
use Rattle.provider_wire.proofs.frame.fetch_frame.Goals as goal

pub returns : goal.returns
returns c = fetch_spelled c.args.object c.args.stripe c.args.size c.placed-frame.result c.push.new.self
    (omega arith) (omega arith) c.requires.some c.requires.few c.placed-frame.ensures.bytes c.push.ensures
