use Rattle.hail_poly.proofs.Words.{◌∙◌, ap, arith, common_steps, trim}
use Rattle.hail_poly.proofs.EuclidSteps.{lent}
use Rattle.hail_poly.proofs.ArithSteps.{interpolated_short, interpolated_takes}
use Rattle.hail_poly.proofs.poly.Poly.interpolate.Goals as goal

pub returns-clause-is : goal.returns-clause-is
returns-clause-is c = c.from_vec.ensures ∙
    ap trim (lent c.in_ok-rest.rest.len c.interpolate_into.new.rest c.in_ok-rest.rest.items
    (grind (arith, common_steps)) ∙ c.interpolate_into.ensures.rest)

pub returns-clause-short : goal.returns-clause-short
returns-clause-short c =
    rw (returns-clause-is c) (interpolated_short c.args.points.now c.args.values.now c.requires.even)

pub returns-clause-takes : goal.returns-clause-takes
returns-clause-takes c = rw (returns-clause-is c)
    (interpolated_takes c.args.points.now c.args.values.now c.requires.even c.requires.apart)
