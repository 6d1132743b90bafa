use Rattle.std.proofs.Common.{arith}
use Rattle.provider_wire.proofs.Framed.{store_spelled}
use Rattle.provider_wire.proofs.frame.store_frame.Goals as goal

pub returns : goal.returns
returns c = store_spelled c.args.object c.args.stripe c.args.block.now c.placed-frame.result c.push.new.self
    c.push_symbols.new.self (omega arith) (omega arith) c.requires.some c.requires.few
    c.symbols_are_numbers.ensures c.placed-frame.ensures.bytes c.push.ensures c.push_symbols.ensures
