use Rattle.server_code.proofs.Words.{◌*◌, ◌+◌, ◌∙◌, ap, forward}
use Rattle.server_code.proofs.TransformSteps.{forward_made}
use Rattle.server_code.proofs.transform.forward_4.Goals as goal

pub returns : goal.returns
returns c =
    let halves = c.split_at_mut-left.ensures in
    forward_made 1 c.args.h c.args.v.now c.part.new.v c.forward_2.new.v c.forward_2-2.new.v
    c.part.ensures
    (c.forward_2.ensures ∙ ap (forward 1 (2 * c.args.h)) halves.front)
    (c.forward_2-2.ensures ∙ ap (forward 1 (2 * c.args.h + 1)) halves.back)
