use Rattle.std.proofs.Common.{◌∙◌}
use Rattle.hail_field.proofs.AllNumbers.{nim_mul_at, nim_ring}
use Rattle.hail_field.proofs.lanes.product_128.Goals as goal

pub returns-then-a-lt256 : goal.returns-then-a-lt256
returns-then-a-lt256 c = c.scaled.ensures ∙ nim_ring.mul_comm c.args.b c.args.a ∙
    nim_mul_at 7 c.args.a c.args.b c.ranges.a.fits c.ranges.b.fits

pub returns-then-b-lt256 : goal.returns-then-b-lt256
returns-then-b-lt256 c =
    c.scaled-then-b-lt256.ensures ∙ nim_mul_at 7 c.args.a c.args.b c.ranges.a.fits c.ranges.b.fits

pub returns-else-b-lt256 : goal.returns-else-b-lt256
returns-else-b-lt256 c =
    c.product_of_both.ensures ∙ nim_mul_at 7 c.args.a c.args.b c.ranges.a.fits c.ranges.b.fits
