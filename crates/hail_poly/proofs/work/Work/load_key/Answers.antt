use Rattle.hail_poly.proofs.Words.{arith, length, ◌∙◌, sym, ap, common_steps, trim}
use Rattle.hail_poly.proofs.EuclidSteps.{lent}
use Rattle.hail_poly.proofs.KeySteps.{power-trimmed}
use Rattle.hail_poly.proofs.work.Work.load_key.Goals as goal

pub invariant_of-self : goal.invariant_of-self
invariant_of-self c =
    let i = c.self.invariant in
    rw (lent c.self.inside.whole.len c.put_power.new.into c.self.inside.whole.items
    (grind (arith, common_steps))) (record {
      small = i.small;
      whole_room = grind (arith, common_steps);
      whole_fits = grind (arith, common_steps);
      whole_trimmed = c.put_power.ensures ∙ power-trimmed (length c.args.syndromes.now)
          ∙ sym (ap trim c.put_power.ensures);
      row_room = grind (arith, common_steps);
      spare_room = i.spare_room;
    })
