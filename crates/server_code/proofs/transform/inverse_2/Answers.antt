use Rattle.server_code.proofs.TransformSteps.{inverse_pair}
use Rattle.server_code.proofs.transform.inverse_2.Goals as goal

pub returns : goal.returns
returns c = inverse_pair c.args.h c.args.v.now c.join.new.v c.join.ensures
