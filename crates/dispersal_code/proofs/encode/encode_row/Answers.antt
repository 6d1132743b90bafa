use Rattle.dispersal_code.proofs.Words.{length, arith, ap, Apart-take, Registers}
use Rattle.dispersal_code.proofs.RowSteps.{row_is}
use Rattle.dispersal_code.proofs.encode.encode_row.Goals as goal

pub load-requires-clause-apart : goal.load-requires-clause-apart
load-requires-clause-apart c = Apart-take (length c.args.primary.now) c.args.points.now c.requires.apart

pub returns-clause-row : goal.returns-clause-row
returns-clause-row c = row_is c.args.points.now c.args.primary.now c.loop-k.out c.load.new.self.rest
    c.loop-k.k c.loop-k-test.false (omega (arith, c.loop-k.auto.out, c.requires.out_fits))
    (ap (λ (r : Registers). r.rest) c.load.ensures) c.loop-k.invariant
