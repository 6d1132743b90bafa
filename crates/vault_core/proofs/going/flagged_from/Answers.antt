use Rattle.std.proofs.Common.{◌∙◌, refl, arith}
use Rattle.vault_core.proofs.Rests.{rewrites_skip, rewrites_none}
use Rattle.vault_core.proofs.going.flagged_from.Goals as goal

pub loop-j-init : goal.loop-j-init
loop-j-init c = λ object turn. refl

pub loop-j-preserved : goal.loop-j-preserved
loop-j-preserved c = λ object turn. c.loop-j.invariant object turn
    ∙ rewrites_skip c.loop-j.j c.args.providers c.args.flagged.now object turn
    (omega arith) c.if-flagged-j.false

pub returns-clause-none : goal.returns-clause-none
returns-clause-none c = λ object turn. c.loop-j.invariant object turn
    ∙ rewrites_none c.loop-j.j c.args.providers c.args.flagged.now object turn (omega arith)
