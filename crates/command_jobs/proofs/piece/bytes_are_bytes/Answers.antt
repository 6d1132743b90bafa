use Rattle.std.proofs.Common.{arith}
use Rattle.record_codec.proofs.Takes.{IsBytes-all}
use Rattle.command_jobs.proofs.piece.bytes_are_bytes.Goals as goal

pub returns : goal.returns
returns c = IsBytes-all c.args.bytes.now (λ i. omega (arith, c.type_inv.bytes i))
