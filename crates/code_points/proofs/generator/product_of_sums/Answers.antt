use Rattle.code_points.proofs.Words.{◌≡◌, ◌-◌, ◌∙◌, ap, arith, range_with_len, value, vanish}
use Rattle.code_points.proofs.generator.product_of_sums.Goals as goal

pub returns : goal.returns
returns c =
    let e : c.loop-place.place ≡ c.args.start = omega (arith, c.loop-place.invariant.from) in
    c.loop-place.invariant.product
    ∙ ap (λ place. value (vanish (range_with_len place (c.args.end - place))) c.args.x) e
