use Rattle.hail_syndrome.proofs.Words.{◌≡◌, drop, others_product_of}
use Rattle.hail_syndrome.proofs.multipliers.others_product.Given as goal

abbrev pub invariant-loop-k : goal.invariant-loop-k
invariant-loop-k l = l.product ≡ others_product_of l.x (drop l.k l.points)
