use Rattle.vault.proofs.Words.{arith, IsBytes-all}
use Rattle.vault.proofs.desk.Desk.checked_name.Goals as goal

pub returns-in-Some-clause-bytes : goal.returns-in-Some-clause-bytes
returns-in-Some-clause-bytes c = IsBytes-all c.args.name.now (λ i. omega (arith, c.type_inv.name i))

pub returns-in-Some-new-clause-bytes : goal.returns-in-Some-new-clause-bytes
returns-in-Some-new-clause-bytes c = IsBytes-all c.args.name.now (λ i. omega (arith, c.type_inv.name i))

pub returns-in-None-clause-bytes : goal.returns-in-None-clause-bytes
returns-in-None-clause-bytes c = IsBytes-all c.args.name.now (λ i. omega (arith, c.type_inv.name i))
