use Rattle.hail_syndrome.proofs.Words.{◌≡◌, ◌∙◌, arith, common_steps, upto}
use Rattle.hail_syndrome.proofs.MultiplierSteps.{known_multiplier}
use Rattle.hail_syndrome.proofs.multipliers.multiplier_at.Goals as goal

pub returns-in-Some : goal.returns-in-Some
returns-in-Some c =
    let is : c.args.points.now ≡ upto c.in-Some.profile.size = grind (arith, common_steps) in
    c.multiplier.ensures ∙ known_multiplier c.args.points.now c.in-Some.profile.size c.args.place is
    c.requires.place
