use Rattle.hail_poly.proofs.Words.{arith, ◌∙◌, sym, ap, common_steps, trim}
use Rattle.hail_poly.proofs.EuclidSteps.{lent}
use Rattle.hail_poly.proofs.RowSteps.{vanish-trimmed}
use Rattle.hail_poly.proofs.work.Work.load.Goals as goal

pub invariant_of-self : goal.invariant_of-self
invariant_of-self c =
    let i = c.self.invariant in
    rw (lent c.self.inside.whole.len c.load.new.whole c.self.inside.whole.items (grind (arith, common_steps)))
    (record {
      small = i.small;
      whole_room = grind (arith, common_steps);
      whole_fits = grind (arith, common_steps);
      whole_trimmed = c.load.ensures.whole ∙ vanish-trimmed c.args.points.now
          ∙ sym (ap trim c.load.ensures.whole);
      row_room = grind (arith, common_steps);
      spare_room = i.spare_room;
    })
