use Rattle.record_codec.proofs.Words.{arith, length, take, take_more_set, take_all, numbers_at}
use Rattle.record_codec.proofs.CountsLemmas.{goes_on, ends, is_done}
use Rattle.record_codec.proofs.reading.numbers_of.Goals as goal

pub loop-i-preserved : goal.loop-i-preserved
loop-i-preserved c =
    let out = c.loop-i.out in
    rw (take_more_set out c.loop-i.i c.in_ok-number.number (omega arith))
    (goes_on (take c.loop-i.i out) (length c.args.out.now) c.loop-i.i c.loop-i.rest.now c.in_ok-number.number
    c.in_ok-number.after.now (numbers_at (length c.args.out.now) c.args.bytes.now)
    (omega arith) c.in_ok-number.ensures c.loop-i.invariant)

pub returns-in_err-number : goal.returns-in_err-number
returns-in_err-number c = rw c.from_residual.ensures (ends (take c.loop-i.i c.loop-i.out)
    (length c.args.out.now) c.loop-i.i c.loop-i.rest.now (numbers_at (length c.args.out.now) c.args.bytes.now)
    (omega arith) c.in_err-number.ensures c.loop-i.invariant)

pub returns : goal.returns
returns c = (let h = is_done (take c.loop-i.i c.loop-i.out)
    (length c.args.out.now) c.loop-i.i c.loop-i.rest.now (numbers_at (length c.args.out.now) c.args.bytes.now)
    (omega arith) c.loop-i.invariant in rw (take_all c.loop-i.i c.loop-i.out (omega arith)) at h)
