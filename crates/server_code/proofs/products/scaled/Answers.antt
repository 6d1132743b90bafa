use Rattle.server_code.proofs.Words.{rules, ◌∙◌, ap, sym, map, nim_mul, nim_ring, AreLanes, low_ok, high_ok}
use Rattle.std.specs.Int.{w128, from_le_bytes}
use Rattle.server_code.proofs.ProductSteps.{products_of_lanes}
use Rattle.server_code.proofs.products.scaled.Goals as goal

pub swizzle-low : goal.swizzle-low
swizzle-low c = low_ok c.lanes-bytes.result c.type_inv.bytes

pub swizzle-high : goal.swizzle-high
swizzle-high c = high_ok c.lanes-bytes.result (search rules)

pub returns : goal.returns
returns c =
    let fits : AreLanes c.lanes-bytes.result = search rules in
    c.from_bytes.ensures ∙
    ap (from_le_bytes w128)
    (products_of_lanes c.entry-multiples.result c.args.c c.lanes-bytes.result c.entry-multiples.ensures fits)
    ∙
    ap (λ bytes. from_le_bytes w128 (map (λ byte. nim_mul byte c.args.c) bytes)) c.lanes-bytes.ensures ∙
    sym c.bytes_of_product.ensures.number ∙ nim_ring.mul_comm c.args.a c.args.c
