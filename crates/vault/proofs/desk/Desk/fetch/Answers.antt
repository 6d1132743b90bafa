use Rattle.vault.proofs.Words.{None, refl, arith, map-set, sight, fetches_by, called-only, seen-at}
use Rattle.vault.proofs.AtWork.{by_work, place_there}
use Rattle.vault.proofs.FetchStep.{room_there, fetch_step}
use Rattle.vault.proofs.JobPlaces.{item_at, place_within}
use Rattle.vault.proofs.Props.{room_prop}
use Rattle.vault.proofs.Replies.{replies}
use Rattle.vault.proofs.Untold.{taken}
use Rattle.vault.proofs.desk.Desk.fetch.Goals as goal

pub place_of-place-requires : goal.place_of-place-requires
place_of-place-requires g c = place_there c.args.self.now c.args.job _ c.requires.next c.requires.at_work

pub fetch-requires : goal.fetch-requires
fetch-requires g c =
    let v = c.args.self.now in
    let place = c.place_of-place.result in
    let running = c.index_mut.result.now in
    let at = c.place_of-place.ensures in
    let there = item_at v.jobs.items c.args.job place running at c.index_mut.ensures.value in
    by_work (room_prop c.turn_to.new.self) v
    (λ w faults ps stands. room_there v w None faults 0 c.args.job _ _ _ ps stands c.requires.next place
    running at there (record { number = running.number; task = c.turn_to.new.self })
    c.profile_in-profile.result refl c.profile_in-profile.ensures c.turn_to.ensures)
    c.requires.at_work

pub returns-clause-machine : goal.returns-clause-machine
returns-clause-machine g c = λ w moment holds faults is_told stands.
    let at = c.place_of-place.ensures in
    let there = item_at c.args.self.now.jobs.items c.args.job c.place_of-place.result
    c.index_mut.result.now at c.index_mut.ensures.value in
    let made = c.fetch.ensures.fetched in
    let seen = sight is_told g.P.Provider in
    fetch_step c.args.self.now w holds faults moment c.args.job _ _ _ _ stands c.requires.next
    c.place_of-place.result c.index_mut.result.now at there
    (record { number = c.index_mut.result.now.number; task = c.turn_to.new.self })
    c.profile_in-profile.result refl c.profile_in-profile.ensures c.turn_to.ensures
    _ _ _ _ (record { number = c.index_mut.result.now.number; task = c.fetch.new.self }) made.0 made.1 refl
    made.2
    (fetches_by is_told _ _ _ _ _ _ (taken _ _ made.0 made.1 made.2) made.3)
    (seen-at seen c.args.providers.now c.args.provider c.index-providers-index.result c.requires.there)
    (map-set seen c.args.providers.now c.args.provider c.fetch.new.from)
    refl
    (record { setup = refl; master = refl; shape = refl; base = refl })
    refl
    (record {
      step = c.feed.ensures.step;
      streams = record { setup = c.feed.ensures.setup; none = c.feed.ensures.streams; told = c.feed.ensures.told };
    })

pub index_mut-requires : goal.index_mut-requires
index_mut-requires g c =
    omega (arith, place_within c.args.self.now.jobs.items c.args.job _ c.place_of-place.ensures)

pub bounds-providers-index : goal.bounds-providers-index
bounds-providers-index g c = c.requires.there

pub feed-requires-clause-reply : goal.feed-requires-clause-reply
feed-requires-clause-reply g c = replies c.args.self.now.core c.args.job _ _ c.requires.next.value tt

pub feed-requires-clause-given : goal.feed-requires-clause-given
feed-requires-clause-given g c = c.requires.next.wants

pub returns-clause-calls : goal.returns-clause-calls
returns-clause-calls g c = called-only g.P.Provider.calls c.args.providers.now c.args.provider
    c.index-providers-index.result c.fetch.new.from c.requires.there c.fetch.ensures.called

pub returns-clause-acted : goal.returns-clause-acted
returns-clause-acted g c = record {
  acted = λ none. none;
  left = λ more. c.feed.ensures.falls;
  padded = tt;
  streams = record { setup = c.feed.ensures.setup; none = c.feed.ensures.streams; told = c.feed.ensures.told };
}
