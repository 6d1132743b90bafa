use Rattle.server_code.proofs.Words.{◌≡◌, ◌∙◌, ◌+◌, ◌-◌, ap, ap₂, sym, refl, take, arith, range_with_len, nim_mul, value, vanish}
use Rattle.server_code.proofs.BehindSteps.{points_start, points_more}
use Rattle.server_code.proofs.behind.multiply_points.Goals as goal

pub loop-place-init : goal.loop-place-init
loop-place-init c = record {
  long = refl;
  product = λ x. points_start c.args.items.now c.args.count c.args.keep x;
}

pub loop-place-preserved : goal.loop-place-preserved
loop-place-preserved c = record {
  long = c.grow.ensures.length ∙ c.loop-place.invariant.long;
  product = λ x. points_more c.grow.new.items c.loop-place.items c.args.items.now c.args.count c.args.keep
      (c.loop-place.place - 1) c.loop-place.place x
      (omega arith) (omega arith) c.grow.ensures.product (c.loop-place.invariant.product x);
}

pub returns-clause-product : goal.returns-clause-product
returns-clause-product c = λ x.
    let zero : c.loop-place.place ≡ 0 = omega arith in
    let all : c.args.keep - c.loop-place.place ≡ c.args.keep = omega arith in
    ap (λ n. value (take (c.args.count + n) c.loop-place.items) x) (sym all) ∙
    c.loop-place.invariant.product x ∙
    ap₂ (λ s n. nim_mul (value (take c.args.count c.args.items.now) x)
    (value (vanish (range_with_len s n)) x)) zero all
