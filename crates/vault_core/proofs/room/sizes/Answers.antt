use Rattle.std.proofs.Common.{arith}
use Rattle.vault_core.proofs.room.sizes.Goals as goal

pub returns-in-Put-clause-value : goal.returns-in-Put-clause-value
returns-in-Put-clause-value c = rw (c.in-Put.is, c.as_bytes.ensures.value) (omega arith)
