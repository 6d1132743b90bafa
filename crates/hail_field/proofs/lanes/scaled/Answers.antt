use Rattle.hail_field.proofs.Words.{rules, ◌∙◌, ap, sym, map, w128, from_le_bytes, nim_mul}
use Rattle.hail_field.proofs.Subfield.{product_by_bytes}
use Rattle.hail_field.proofs.Multiples.{AreLanes, low_ok, high_ok, products_of_lanes}
use Rattle.hail_field.proofs.lanes.scaled.Goals as goal

pub swizzle-low : goal.swizzle-low
swizzle-low c = low_ok c.bytes_of-bytes.result c.type_inv.bytes

pub swizzle-high : goal.swizzle-high
swizzle-high c = high_ok c.bytes_of-bytes.result (search rules)

pub returns : goal.returns
returns c =
    let fits : AreLanes c.bytes_of-bytes.result = search rules in
    c.from_le_bytes.ensures ∙
    rw (c.multiples-of_low.ensures, c.multiples-of_high.ensures) (ap (from_le_bytes w128)
    (products_of_lanes c.args.c c.bytes_of-bytes.result c.ranges.c.fits fits)) ∙
    ap (λ bytes. from_le_bytes w128 (map (λ byte. nim_mul byte c.args.c) bytes)) c.bytes_of-bytes.ensures ∙
    sym (product_by_bytes c.args.a c.args.c c.ranges.a.fits c.ranges.c.fits)
