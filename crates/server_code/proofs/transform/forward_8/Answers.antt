use Rattle.server_code.proofs.Words.{◌*◌, ◌+◌, ◌∙◌, ap, forward}
use Rattle.server_code.proofs.TransformSteps.{forward_made}
use Rattle.server_code.proofs.transform.forward_8.Goals as goal

pub returns : goal.returns
returns c =
    let halves = c.split_at_mut-left.ensures in
    forward_made 2 c.args.h c.args.v.now c.part.new.v c.forward_4.new.v c.forward_4-2.new.v
    c.part.ensures
    (c.forward_4.ensures ∙ ap (forward 2 (2 * c.args.h)) halves.front)
    (c.forward_4-2.ensures ∙ ap (forward 2 (2 * c.args.h + 1)) halves.back)
