use Rattle.hail_field.proofs.AllNumbers.{nim_pow-zero, nim_pow-suc}
use Rattle.hail_field.proofs.laws.powers_are_products.Goals as goal

pub returns-clause-none : goal.returns-clause-none
returns-clause-none c = nim_pow-zero c.args.a

pub returns-clause-next : goal.returns-clause-next
returns-clause-next c = nim_pow-suc c.args.a c.args.exponent
