use Rattle.provider_wire.proofs.Words.{arith, rules, asked}
use Rattle.provider_wire.proofs.Framed.{ask_spelled}
use Rattle.provider_wire.proofs.frame.ask_frame.Goals as goal

pub returns : goal.returns
returns c =
    let q = c.args.challenge.now in
    ask_spelled c.args.object (asked q) c.begun-frame.result c.push.new.self c.push-2.new.self
    c.push-3.new.self c.to_le_bytes.result (omega arith) (search rules) c.bytes_are_in_range.ensures
    (omega (arith, q.some_rows)) (omega (arith, q.few_rows)) (omega (arith, q.some_size))
    (omega (arith, q.small_size)) (omega (arith, q.some_picks))
    (omega (arith, q.few_picks)) c.begun-frame.ensures.bytes c.push.ensures c.to_le_bytes.ensures
    c.push-2.ensures c.push-3.ensures
