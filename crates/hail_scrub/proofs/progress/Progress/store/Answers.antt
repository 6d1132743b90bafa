use Rattle.hail_scrub.proofs.Words.{◌<◌, map, sym, subst, arith, slice_set, map-set, provider_seen, scrub_view, MakesNext, seen-at, called-only, was_stored, was_failed, found_no_memory}
use Rattle.hail_scrub.proofs.Placed.{bench_there, falls_by}
use Rattle.hail_scrub.proofs.Storing.{store_spot, store_within, store_some, store_fits, store_whole, store_done_whole, store_done, store_fails, store_finds_none}
use Rattle.hail_scrub.proofs.progress.Progress.store.Goals as goal

pub index_mut-bench-requires : goal.index_mut-bench-requires
index_mut-bench-requires g c =
    let p = c.args.self.now in
    let W = c.requires.whole in
    let l = bench_there p W c.args.spot (store_spot p W c.args.spot c.args.provider c.requires.here) in
    omega (arith, l)

pub store_stripe-requires : goal.store_stripe-requires
store_stripe-requires g c = store_fits c.args.self.now c.requires.whole c.args.spot c.args.provider
    c.requires.here c.index_mut-bench.result.now c.index_mut-bench.ensures.value

pub stop-requires : goal.stop-requires
stop-requires g c = store_whole c.args.self.now c.requires.whole c.args.spot c.args.provider c.requires.here
    c.index_mut-bench.result.now c.index_mut-bench.ensures.value c.store_stripe.new.bench
    c.store_stripe.ensures.object

pub stop-requires-in-Err-Memory : goal.stop-requires-in-Err-Memory
stop-requires-in-Err-Memory g c = store_whole c.args.self.now c.requires.whole c.args.spot c.args.provider
    c.requires.here c.index_mut-bench.result.now c.index_mut-bench.ensures.value c.store_stripe.new.bench
    c.store_stripe.ensures.object

pub returns-in-Ok-clause-whole : goal.returns-in-Ok-clause-whole
returns-in-Ok-clause-whole g c =
    let after = c.stores_after-self in
    store_done_whole c.args.self.now c.requires.whole c.args.spot c.args.provider c.requires.here c.index_mut-bench.result.now
    c.index_mut-bench.ensures.value c.store_stripe.new.bench c.store_stripe.ensures.object after.result
    (rw c.deref.ensures.value at after.ensures.at) after.ensures.behind

pub returns-in-Ok-clause-step : goal.returns-in-Ok-clause-step
returns-in-Ok-clause-step g c =
    let p = c.args.self.now in
    let spot = c.args.spot in
    let less = store_within p c.requires.whole spot c.args.provider c.requires.here in
    let after = c.stores_after-self in
    let seen = provider_seen g.P.Provider in
    store_done p c.requires.whole spot c.args.provider c.requires.here c.index_mut-bench.result.now
    c.index_mut-bench.ensures.value c.store_stripe.new.bench c.store_stripe.ensures.object after.result
    (rw c.deref.ensures.value at after.ensures.at) after.ensures.behind
    c.store_stripe.ensures.rows _ _ _ _
    (seen-at seen c.args.providers.now c.args.provider c.index-providers-index.result
    (omega (arith, less, c.requires.there)))
    (map-set seen c.args.providers.now c.args.provider c.store_stripe.new.to)
    (was_stored _ _ _ _ _ _ _ c.in-Ok.is c.store_stripe.ensures.stored)

pub returns-in-Ok-clause-left : goal.returns-in-Ok-clause-left
returns-in-Ok-clause-left g c =
    let p = c.args.self.now in
    let some : 0 < p.left = store_some p c.requires.whole c.args.spot c.args.provider c.requires.here in
    falls_by p _ c.requires.whole (returns-in-Ok-clause-whole g c) (omega (arith, some))

pub returns-in-Ok-clause-calls : goal.returns-in-Ok-clause-calls
returns-in-Ok-clause-calls g c =
    let less = store_within c.args.self.now c.requires.whole c.args.spot c.args.provider c.requires.here in
    called-only g.P.Provider.calls c.args.providers.now c.args.provider c.index-providers-index.result
    c.store_stripe.new.to (omega (arith, less, c.requires.there)) c.store_stripe.ensures.called

pub returns-in-Err-Failed-clause-step : goal.returns-in-Err-Failed-clause-step
returns-in-Err-Failed-clause-step g c =
    let p = c.args.self.now in
    let j = c.args.provider in
    let less = store_within p c.requires.whole c.args.spot j c.requires.here in
    let seen = provider_seen g.P.Provider in
    subst (λ t. MakesNext (scrub_view p) (map seen c.args.providers.now) t (scrub_view c.stop.new.self)
    (map seen (slice_set c.args.providers.now j c.store_stripe.new.to))) (sym c.stop.ensures.answer)
    (store_fails p c.requires.whole c.args.spot j c.requires.here c.index_mut-bench.result.now
    c.index_mut-bench.ensures.value _ _ _ _ _ c.stop.ensures.over
    (seen-at seen c.args.providers.now j c.index-providers-index.result
    (omega (arith, less, c.requires.there)))
    (map-set seen c.args.providers.now j c.store_stripe.new.to)
    (was_failed _ _ _ _ _ _ _ c.in-Err-Failed.is c.in-Err-Failed.field-0-is c.store_stripe.ensures.stored))

pub returns-in-Err-Failed-clause-calls : goal.returns-in-Err-Failed-clause-calls
returns-in-Err-Failed-clause-calls g c =
    let less = store_within c.args.self.now c.requires.whole c.args.spot c.args.provider c.requires.here in
    called-only g.P.Provider.calls c.args.providers.now c.args.provider c.index-providers-index.result
    c.store_stripe.new.to (omega (arith, less, c.requires.there)) c.store_stripe.ensures.called

pub returns-in-Err-Memory-clause-step : goal.returns-in-Err-Memory-clause-step
returns-in-Err-Memory-clause-step g c =
    let p = c.args.self.now in
    let j = c.args.provider in
    let less = store_within p c.requires.whole c.args.spot j c.requires.here in
    let seen = provider_seen g.P.Provider in
    subst (λ t. MakesNext (scrub_view p) (map seen c.args.providers.now) t (scrub_view c.stop-in-Err-Memory.new.self)
    (map seen (slice_set c.args.providers.now j c.store_stripe.new.to))) (sym c.stop-in-Err-Memory.ensures.answer)
    (store_finds_none p c.requires.whole c.args.spot j c.requires.here c.index_mut-bench.result.now
    c.index_mut-bench.ensures.value _ _ _ _ _ c.stop-in-Err-Memory.ensures.over
    (seen-at seen c.args.providers.now j c.index-providers-index.result
    (omega (arith, less, c.requires.there)))
    (map-set seen c.args.providers.now j c.store_stripe.new.to)
    (found_no_memory _ _ _ _ _ _ _ c.in-Err-Memory.is c.in-Err-Memory.field-0-is c.store_stripe.ensures.stored))

pub returns-in-Err-Memory-clause-calls : goal.returns-in-Err-Memory-clause-calls
returns-in-Err-Memory-clause-calls g c =
    let less = store_within c.args.self.now c.requires.whole c.args.spot c.args.provider c.requires.here in
    called-only g.P.Provider.calls c.args.providers.now c.args.provider c.index-providers-index.result
    c.store_stripe.new.to (omega (arith, less, c.requires.there)) c.store_stripe.ensures.called
