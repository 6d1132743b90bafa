use Rattle.server_code.proofs.TransformSteps.{forward_pair}
use Rattle.server_code.proofs.transform.forward_2.Goals as goal

pub returns : goal.returns
returns c = forward_pair c.args.h c.args.v.now c.part.new.v c.part.ensures
