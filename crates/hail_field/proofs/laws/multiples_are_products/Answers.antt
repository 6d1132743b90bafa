use Rattle.hail_field.proofs.Multiples.{product_at}
use Rattle.hail_field.proofs.laws.multiples_are_products.Goals as goal

pub returns : goal.returns
returns c = product_at c.args.byte c.args.place c.ranges.byte.fits c.requires
