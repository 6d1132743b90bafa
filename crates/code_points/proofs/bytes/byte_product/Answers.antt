use Rattle.code_points.proofs.Words.{◌∙◌, sym, arith, inl, inr, nim_ring, nim_mul_at, product_by_logs}
use Rattle.algebra_laws.proofs.Ring.{zero_mul}
use Rattle.code_points.proofs.bytes.byte_product.Goals as goal

pub returns-then-a-eq0 : goal.returns-then-a-eq0
returns-then-a-eq0 c =
    elim c.then-a-eq0.either [
      | inl e ↦ sym (rw e (zero_mul nim_ring c.args.b))
      | inr f ↦ sym (rw f.1 (nim_ring.mul_zero c.args.a))
    ]

pub returns : goal.returns
returns c = product_by_logs c.args.a c.args.b c.ranges.a.fits c.ranges.b.fits (omega arith) (omega arith) ∙
    sym (nim_mul_at 3 c.args.a c.args.b c.ranges.a.fits c.ranges.b.fits)
