use Rattle.hail_scrub.proofs.Rests.{store_found, stores_end}
use Rattle.hail_scrub.proofs.moves.stores_after.Goals as goal

pub returns-in-Some-clause-at : goal.returns-in-Some-clause-at
returns-in-Some-clause-at c = store_found c.args.providers c.args.items.now c.args.off.now c.args.spot
    c.args.from c.in-Some.provider c.requires.spot c.in-Some.ensures.below c.in-Some.ensures.is_off
    (c.in-Some.ensures.first c.args.spot.item.file.id c.args.spot.stripe)

pub returns-in-None-clause-at : goal.returns-in-None-clause-at
returns-in-None-clause-at c = stores_end c.args.providers c.args.items.now c.args.off.now c.args.spot
    c.args.from c.stripe_after.result (c.in-None.ensures.none c.args.spot.item.file.id c.args.spot.stripe)
    (c.stripe_after.ensures.at c.args.off.now)

pub returns-in-None-clause-behind : goal.returns-in-None-clause-behind
returns-in-None-clause-behind c = c.stripe_after.ensures.behind c.args.spot
