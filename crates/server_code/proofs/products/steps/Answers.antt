use Rattle.server_code.proofs.Words.{◌∙◌, arith, length-set}
use Rattle.server_code.proofs.ProductSteps.{steps_more}
use Rattle.server_code.proofs.products.steps.Goals as goal

pub loop-b-preserved : goal.loop-b-preserved
loop-b-preserved c = record {
  long = length-set c.loop-b.out c.from.result c.byte_product.result ∙ c.loop-b.invariant.long;
  done = steps_more c.loop-b.out c.args.step c.args.c c.loop-b.b c.from.result c.byte_product.result
      (omega (arith, c.loop-b.invariant.long)) c.from.ensures c.byte_product.ensures c.loop-b.invariant.done;
}
