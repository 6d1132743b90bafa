use Rattle.vault.proofs.Words.{None, refl, ap, arith, is_some, map-set, sight, stores_by, fails_by, no_memory_by, was_stored, was_failed, found_no_memory, called-only, seen-at}
use Rattle.vault.proofs.JobPlaces.{item_at, place_within}
use Rattle.vault.proofs.Replies.{replies}
use Rattle.vault.proofs.AtWork.{by_work, place_there}
use Rattle.vault.proofs.Props.{storer_prop}
use Rattle.vault.proofs.Stops.{place_set}
use Rattle.vault.proofs.StoreStep.{storer_there, store_step, failed_step, no_memory_step}
use Rattle.vault.proofs.Called.{stopped-acted}
use Rattle.vault.proofs.desk.Desk.store.Goals as goal

pub place_of-place-requires : goal.place_of-place-requires
place_of-place-requires g c = place_there c.args.self.now c.args.job _ c.requires.next c.requires.at_work

pub store-requires : goal.store-requires
store-requires g c =
    let v = c.args.self.now in
    let place = c.place_of-place.result in
    let running = c.index_mut.result.now in
    let at = c.place_of-place.ensures in
    by_work (storer_prop running.task c.args.provider) v
    (λ w faults ps stands. storer_there v w None faults 0 c.args.job _ _ _ ps stands c.requires.next place
    running at (item_at v.jobs.items c.args.job place running at c.index_mut.ensures.value))
    c.requires.at_work

pub stop-requires-clause-there : goal.stop-requires-clause-there
stop-requires-clause-there g c =
    let v = c.args.self.now in
    let at = c.place_of-place.ensures in
    let there = item_at v.jobs.items c.args.job c.place_of-place.result
    c.index_mut.result.now at c.index_mut.ensures.value in
    ap is_some (place_set v.jobs.items c.args.job c.place_of-place.result c.index_mut.result.now
    (record { number = c.index_mut.result.now.number; task = c.store.new.self }) at there refl)

pub stop-requires-in-Err-Memory-clause-there : goal.stop-requires-in-Err-Memory-clause-there
stop-requires-in-Err-Memory-clause-there g c =
    let v = c.args.self.now in
    let at = c.place_of-place.ensures in
    let there = item_at v.jobs.items c.args.job c.place_of-place.result
    c.index_mut.result.now at c.index_mut.ensures.value in
    ap is_some (place_set v.jobs.items c.args.job c.place_of-place.result c.index_mut.result.now
    (record { number = c.index_mut.result.now.number; task = c.store.new.self }) at there refl)

pub returns-in-Ok-clause-machine : goal.returns-in-Ok-clause-machine
returns-in-Ok-clause-machine g c = λ w moment holds faults is_told stands.
    let at = c.place_of-place.ensures in
    let there = item_at c.args.self.now.jobs.items c.args.job c.place_of-place.result
    c.index_mut.result.now at c.index_mut.ensures.value in
    let seen = sight is_told g.P.Provider in
    store_step c.args.self.now w holds faults moment c.args.job _ _ _ _ stands c.requires.next
    c.place_of-place.result c.index_mut.result.now at there
    (record { number = c.index_mut.result.now.number; task = c.store.new.self }) refl c.store.ensures.keeps _
    _ _
    (seen-at seen c.args.providers.now c.args.provider c.index-providers-index.result c.requires.there)
    (map-set seen c.args.providers.now c.args.provider c.store.new.to)
    _ (stores_by is_told _ _ _ _ _ (was_stored _ _ _ _ _ _ _ c.in-Ok.is c.store.ensures.stored)) refl
    (record { setup = refl; master = refl; shape = refl; base = refl }) refl (record {
      step = c.feed.ensures.step;
      streams = record { setup = c.feed.ensures.setup; none = c.feed.ensures.streams; told = c.feed.ensures.told };
    })

pub returns-in-Err-Failed-clause-machine : goal.returns-in-Err-Failed-clause-machine
returns-in-Err-Failed-clause-machine g c = λ w moment holds faults is_told stands.
    let at = c.place_of-place.ensures in
    let there = item_at c.args.self.now.jobs.items c.args.job c.place_of-place.result
    c.index_mut.result.now at c.index_mut.ensures.value in
    let seen = sight is_told g.P.Provider in
    failed_step c.args.self.now w holds faults moment c.args.job _ _ _ _ stands c.requires.next
    c.place_of-place.result c.index_mut.result.now at there
    (record { number = c.index_mut.result.now.number; task = c.store.new.self }) refl c.store.ensures.keeps _
    _ _
    (seen-at seen c.args.providers.now c.args.provider c.index-providers-index.result c.requires.there)
    (map-set seen c.args.providers.now c.args.provider c.store.new.to)
    _ _ _ refl refl (record { setup = refl; master = refl; shape = refl; base = refl }) refl
    (fails_by is_told _ _
    (was_failed _ _ _ _ _ _ _ c.in-Err-Failed.is c.in-Err-Failed.field-0-is c.store.ensures.stored))
    c.stop.ensures.stopped

pub returns-in-Err-Memory-clause-machine : goal.returns-in-Err-Memory-clause-machine
returns-in-Err-Memory-clause-machine g c = λ w moment holds faults is_told stands.
    let at = c.place_of-place.ensures in
    let there = item_at c.args.self.now.jobs.items c.args.job c.place_of-place.result
    c.index_mut.result.now at c.index_mut.ensures.value in
    let seen = sight is_told g.P.Provider in
    no_memory_step c.args.self.now w holds faults moment c.args.job _ _ _ _ stands c.requires.next
    c.place_of-place.result c.index_mut.result.now at there
    (record { number = c.index_mut.result.now.number; task = c.store.new.self }) refl c.store.ensures.keeps _
    _ _
    (seen-at seen c.args.providers.now c.args.provider c.index-providers-index.result c.requires.there)
    (map-set seen c.args.providers.now c.args.provider c.store.new.to)
    _ _ _ refl refl (record { setup = refl; master = refl; shape = refl; base = refl }) refl
    (no_memory_by is_told _ _
    (found_no_memory _ _ _ _ _ _ _ c.in-Err-Memory.is c.in-Err-Memory.field-0-is c.store.ensures.stored))
    c.stop-in-Err-Memory.ensures.stopped

pub index_mut-requires : goal.index_mut-requires
index_mut-requires g c =
    omega (arith, place_within c.args.self.now.jobs.items c.args.job _ c.place_of-place.ensures)

pub bounds-providers-index : goal.bounds-providers-index
bounds-providers-index g c = c.requires.there

pub feed-requires-clause-reply : goal.feed-requires-clause-reply
feed-requires-clause-reply g c = replies c.args.self.now.core c.args.job _ _ c.requires.next.value tt

pub stop-requires-clause-reply : goal.stop-requires-clause-reply
stop-requires-clause-reply g c = replies c.args.self.now.core c.args.job _ _ c.requires.next.value tt

pub stop-requires-in-Err-Memory-clause-reply : goal.stop-requires-in-Err-Memory-clause-reply
stop-requires-in-Err-Memory-clause-reply g c =
    replies c.args.self.now.core c.args.job _ _ c.requires.next.value tt

pub feed-requires-clause-given : goal.feed-requires-clause-given
feed-requires-clause-given g c = c.requires.next.wants

pub stop-requires-clause-given : goal.stop-requires-clause-given
stop-requires-clause-given g c = c.requires.next.wants

pub stop-requires-in-Err-Memory-clause-given : goal.stop-requires-in-Err-Memory-clause-given
stop-requires-in-Err-Memory-clause-given g c = c.requires.next.wants

pub returns-in-Ok-clause-calls : goal.returns-in-Ok-clause-calls
returns-in-Ok-clause-calls g c = called-only g.P.Provider.calls c.args.providers.now c.args.provider
    c.index-providers-index.result c.store.new.to c.requires.there c.store.ensures.called

pub returns-in-Ok-clause-acted : goal.returns-in-Ok-clause-acted
returns-in-Ok-clause-acted g c = record {
  acted = λ none. none;
  left = λ more. c.feed.ensures.falls;
  padded = tt;
  streams = record { setup = c.feed.ensures.setup; none = c.feed.ensures.streams; told = c.feed.ensures.told };
}

pub returns-in-Err-Failed-clause-calls : goal.returns-in-Err-Failed-clause-calls
returns-in-Err-Failed-clause-calls g c = called-only g.P.Provider.calls c.args.providers.now c.args.provider
    c.index-providers-index.result c.store.new.to c.requires.there c.store.ensures.called

pub returns-in-Err-Failed-clause-acted : goal.returns-in-Err-Failed-clause-acted
returns-in-Err-Failed-clause-acted g c = stopped-acted _ _ _ _ _ _ c.stop.ensures.stopped tt

pub returns-in-Err-Memory-clause-calls : goal.returns-in-Err-Memory-clause-calls
returns-in-Err-Memory-clause-calls g c = called-only g.P.Provider.calls c.args.providers.now c.args.provider
    c.index-providers-index.result c.store.new.to c.requires.there c.store.ensures.called

pub returns-in-Err-Memory-clause-acted : goal.returns-in-Err-Memory-clause-acted
returns-in-Err-Memory-clause-acted g c = stopped-acted _ _ _ _ _ _ c.stop-in-Err-Memory.ensures.stopped tt
