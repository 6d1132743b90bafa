use Rattle.hail_scrub.proofs.Words.{◌∙◌, refl, arith, eq-eqb}
use Rattle.hail_scrub.proofs.Rests.{stores_skip}
use Rattle.hail_scrub.proofs.moves.off_from.Goals as goal

pub loop-j-init : goal.loop-j-init
loop-j-init c = λ o t. refl

pub loop-j-preserved : goal.loop-j-preserved
loop-j-preserved c = λ o t. c.loop-j.invariant o t
    ∙ stores_skip c.args.providers c.loop-j.j c.args.off.now o t (omega arith)
    (eq-eqb _ 0 c.if-differing-ne0.false)
