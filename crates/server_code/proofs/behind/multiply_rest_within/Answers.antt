use Rattle.server_code.proofs.Words.{◌∙◌, ◌+◌, ap, length, take, arith, length-take, nim, nim_laws, length-trim, value, vanish, upto}
use Rattle.hail_poly.specs.Registers.{Registers}
use Rattle.server_code.proofs.BehindSteps.{rest_product}
use Rattle.server_code.proofs.behind.multiply_rest_within.Goals as goal

pub returns-clause-short : goal.returns-clause-short
returns-clause-short c =
    let made = take (length c.rest-count.result.now + c.args.keep) c.multiply_points.new.items in
    omega (
      arith,
      ap (λ (w : Registers). length w.rest) c.set_rest.ensures,
      length-trim nim nim_laws made,
      length-take (length c.rest-count.result.now + c.args.keep) c.multiply_points.new.items,
      ap length c.rest-count.ensures.is,
    )

pub returns-clause-product : goal.returns-clause-product
returns-clause-product c = λ x. ap (λ (w : Registers). value w.rest x) c.set_rest.ensures ∙
    rest_product c.args.work.now.rest c.args.items.now c.put_front.new.into c.multiply_points.new.items
    (vanish (upto c.args.keep)) (length c.rest-count.result.now) c.args.keep
    (ap length c.rest-count.ensures.is) (rw c.rest.ensures.is at c.put_front.ensures)
    c.multiply_points.ensures.product x
