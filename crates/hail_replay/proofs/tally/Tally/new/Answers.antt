use Rattle.std.proofs.Common.{refl, arith}
use Rattle.hail_replay.proofs.tally.Tally.new.Goals as goal

pub invariant_of-result : goal.invariant_of-result
invariant_of-result c = record {
  gets = omega arith;
  right = omega arith;
  audits = omega arith;
  repairs = omega arith;
  stops = omega arith;
}

pub returns : goal.returns
returns c = λ expected. rw c.new.ensures.items refl
