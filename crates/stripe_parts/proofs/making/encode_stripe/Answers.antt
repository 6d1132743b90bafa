use Rattle.stripe_parts.proofs.making.encode_stripe.Goals as goal

pub returns-clause-made : goal.returns-clause-made
returns-clause-made c =
    let master = c.in_ok-bench.ensures.master in
    let file = c.in_ok-bench.ensures.file in
    rw (master, file) at c.encode.ensures.blocks
