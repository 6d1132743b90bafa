use Rattle.server_code.proofs.Words.{◌*◌, ◌+◌, ◌∙◌, ap, inverse}
use Rattle.server_code.proofs.TransformSteps.{inverse_made}
use Rattle.server_code.proofs.transform.inverse_8.Goals as goal

pub returns : goal.returns
returns c =
    let halves = c.split_at_mut-left.ensures in
    inverse_made 2 c.args.h c.args.v.now c.inverse_4.new.v c.inverse_4-2.new.v c.join.new.v
    (c.inverse_4.ensures ∙ ap (inverse 2 (2 * c.args.h)) halves.front)
    (c.inverse_4-2.ensures ∙ ap (inverse 2 (2 * c.args.h + 1)) halves.back) c.join.ensures
