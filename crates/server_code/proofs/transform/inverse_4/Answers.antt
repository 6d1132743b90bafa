use Rattle.server_code.proofs.Words.{◌*◌, ◌+◌, ◌∙◌, ap, inverse}
use Rattle.server_code.proofs.TransformSteps.{inverse_made}
use Rattle.server_code.proofs.transform.inverse_4.Goals as goal

pub returns : goal.returns
returns c =
    let halves = c.split_at_mut-left.ensures in
    inverse_made 1 c.args.h c.args.v.now c.inverse_2.new.v c.inverse_2-2.new.v c.join.new.v
    (c.inverse_2.ensures ∙ ap (inverse 1 (2 * c.args.h)) halves.front)
    (c.inverse_2-2.ensures ∙ ap (inverse 1 (2 * c.args.h + 1)) halves.back) c.join.ensures
