use Rattle.hail_scrub.proofs.Words.{arith, slice_get_within}
use Rattle.hail_scrub.proofs.Rests.{stripe_found, stripes_end}
use Rattle.hail_scrub.proofs.moves.stripe_after.Goals as goal

pub returns-then-spot-clause-at : goal.returns-then-spot-clause-at
returns-then-spot-clause-at c = λ off. stripe_found c.args.providers c.args.items.now off c.args.spot
    c.requires.items c.requires.spot c.if-spot.true

pub returns-clause-at : goal.returns-clause-at
returns-clause-at c = λ off. stripes_end c.args.providers c.args.items.now off c.args.spot c.file_at.result
    c.if-spot.false (c.file_at.ensures.at off)

pub overflow_add-spot-2 : goal.overflow_add-spot-2
overflow_add-spot-2 c =
    let l = slice_get_within c.args.items.now c.args.spot.place c.args.spot.item c.requires.spot.there in
    let few = c.requires.few in
    omega (arith, l, few)
