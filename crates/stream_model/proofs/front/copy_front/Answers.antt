use Rattle.std.proofs.Common.{arith, rules}
use Rattle.stream_model.proofs.ReadLemmas.{given}
use Rattle.stream_model.proofs.front.copy_front.Goals as goal

pub returns-clause-given : goal.returns-clause-given
returns-clause-given c = given c.args.bytes.now c.args.out.now c.copy_from_slice.new.self c.args.at
    c.min-n.result (omega arith) (search rules)
