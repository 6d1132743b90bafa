use Rattle.server_code.proofs.Words.{◌*◌, ◌+◌, ◌∙◌, ap, inverse}
use Rattle.server_code.proofs.TransformSteps.{inverse_made}
use Rattle.server_code.proofs.transform.inverse_32.Goals as goal

pub returns : goal.returns
returns c =
    let halves = c.split_at_mut-left.ensures in
    inverse_made 4 c.args.h c.args.v.now c.inverse_16.new.v c.inverse_16-2.new.v c.join.new.v
    (c.inverse_16.ensures ∙ ap (inverse 4 (2 * c.args.h)) halves.front)
    (c.inverse_16-2.ensures ∙ ap (inverse 4 (2 * c.args.h + 1)) halves.back) c.join.ensures
