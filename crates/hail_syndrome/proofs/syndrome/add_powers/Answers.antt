use Rattle.hail_syndrome.proofs.Words.{arith, refl, ◌∙◌, ap, get_or_read, nim_mul}
use Rattle.hail_syndrome.proofs.SyndromeSteps.{power_start, power_more, place_more, place_left}
use Rattle.hail_syndrome.proofs.syndrome.add_powers.Goals as goal

pub loop-k-init : goal.loop-k-init
loop-k-init c = record {
  power = power_start c.args.c c.args.x;
  done = λ j h. absurd (omega arith);
  left = λ j h. refl;
}

pub loop-k-preserved : goal.loop-k-preserved
loop-k-preserved c =
    let i = c.loop-k.invariant in
    record {
      power = c.mul-term.ensures ∙ ap (λ t. nim_mul t c.args.x) i.power
          ∙ power_more c.args.c c.args.x c.loop-k.k;
      done = rw c.add.ensures (place_more c.args.out.now c.loop-k.out c.args.c c.args.x c.loop-k.k
          c.index-out-k.result c.loop-k.term (omega arith)
          (get_or_read c.loop-k.out c.loop-k.k c.index-out-k.result (omega arith) c.index-out-k.is 0) i.power
          i.done i.left);
      left = place_left c.args.out.now c.loop-k.out c.loop-k.k c.add.result i.left;
    }

pub returns : goal.returns
returns c = λ j h. c.loop-k.invariant.done j (omega arith)
