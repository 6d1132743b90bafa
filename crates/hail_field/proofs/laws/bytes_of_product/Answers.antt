use Rattle.std.proofs.Common.{arith}
use Rattle.hail_field.proofs.Subfield.{bytes_of_product, product_by_bytes}
use Rattle.hail_field.proofs.laws.bytes_of_product.Goals as goal

pub returns-clause-bytes : goal.returns-clause-bytes
returns-clause-bytes c =
    bytes_of_product c.args.a c.args.c (omega (arith, c.well_formed)) (omega (arith, c.well_formed))

pub returns-clause-number : goal.returns-clause-number
returns-clause-number c =
    product_by_bytes c.args.a c.args.c (omega (arith, c.well_formed)) (omega (arith, c.well_formed))
