use Rattle.std.proofs.Common.{arith}
use Rattle.vault_open.proofs.Limits.{key-spelled}
use Rattle.hail_client.proofs.laws.key_is_spelled.Goals as goal

pub returns : goal.returns
returns c = key-spelled c.args.key.now c.requires (λ i. omega (arith, c.type_inv.key i))
