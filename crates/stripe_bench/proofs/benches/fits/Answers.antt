use Rattle.std.proofs.Common.{◌∙◌, refl}
use Rattle.std.proofs.lemmas.Cmp.{nat_eq_equiv}
use Rattle.stripe_bench.proofs.benches.fits.Goals as goal

pub returns-then-eq-2-clause-served : goal.returns-then-eq-2-clause-served
returns-then-eq-2-clause-served c s = (let p = c.args.file.now.profile in
    c.eq-then-eq-2.ensures ∙ (rw (
      s.profile,
      nat_eq_equiv.refl p.number,
      nat_eq_equiv.refl p.size,
      nat_eq_equiv.refl p.keep,
      nat_eq_equiv.refl p.fix,
    ) refl))
