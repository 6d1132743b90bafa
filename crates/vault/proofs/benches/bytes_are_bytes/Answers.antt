use Rattle.vault.proofs.Words.{arith, IsBytes-all}
use Rattle.vault.proofs.benches.bytes_are_bytes.Goals as goal

pub returns : goal.returns
returns c = IsBytes-all c.args.bytes.now (λ i. omega (arith, c.type_inv.bytes i))
