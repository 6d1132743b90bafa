use Rattle.server_code.proofs.Words.{◌*◌, ◌+◌, ◌∙◌, ap, forward}
use Rattle.server_code.proofs.TransformSteps.{forward_made}
use Rattle.server_code.proofs.transform.forward_16.Goals as goal

pub returns : goal.returns
returns c =
    let halves = c.split_at_mut-left.ensures in
    forward_made 3 c.args.h c.args.v.now c.part.new.v c.forward_8.new.v c.forward_8-2.new.v
    c.part.ensures
    (c.forward_8.ensures ∙ ap (forward 3 (2 * c.args.h)) halves.front)
    (c.forward_8-2.ensures ∙ ap (forward 3 (2 * c.args.h + 1)) halves.back)
