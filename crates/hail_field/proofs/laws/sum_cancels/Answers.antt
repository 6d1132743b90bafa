use Rattle.hail_field.proofs.AllNumbers.{nim_ring}
use Rattle.hail_field.proofs.laws.sum_cancels.Goals as goal

pub returns-clause-zero : goal.returns-clause-zero
returns-clause-zero c = nim_ring.add_zero c.args.a

pub returns-clause-twice : goal.returns-clause-twice
returns-clause-twice c = nim_ring.add_self c.args.a
