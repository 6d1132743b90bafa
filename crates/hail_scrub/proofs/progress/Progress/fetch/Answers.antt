use Rattle.hail_scrub.proofs.Words.{◌<◌, arith, map-set, provider_seen, seen-at, called-only}
use Rattle.hail_scrub.proofs.Fetching.{fetch_spot, fetch_within, fetch_some, fetch_whole, fetch_step}
use Rattle.hail_scrub.proofs.Placed.{falls_by}
use Rattle.hail_scrub.proofs.progress.Progress.fetch.Goals as goal

pub returns-clause-whole : goal.returns-clause-whole
returns-clause-whole g c =
    let p = c.args.self.now in
    let made = c.fetch.ensures.fetched in
    let after = c.fetch_after-self.ensures in
    fetch_whole p c.requires.whole c.args.spot c.args.provider c.requires.here c.turn_to.new.self
    c.fetch.new.self c.fetch_after-self.result made.0 made.1 c.turn_to.ensures.present c.turn_to.ensures.symbols
    c.turn_to.ensures.size made.2 (after.todo p.items.items p.off) (after.placed p.items.items p.off
    (fetch_spot p c.requires.whole c.args.spot c.args.provider c.requires.here)) after.count after.amid

pub returns-clause-step : goal.returns-clause-step
returns-clause-step g c =
    let p = c.args.self.now in
    let made = c.fetch.ensures.fetched in
    let after = c.fetch_after-self.ensures in
    let less = fetch_within p c.requires.whole c.args.spot c.args.provider c.requires.here in
    let seen = provider_seen g.P.Provider in
    fetch_step p c.requires.whole c.args.spot c.args.provider c.requires.here c.turn_to.new.self
    c.fetch.new.self c.fetch_after-self.result made.0 made.1 c.turn_to.ensures.present c.turn_to.ensures.symbols
    c.turn_to.ensures.size made.2 (after.todo p.items.items p.off) (after.placed p.items.items p.off
    (fetch_spot p c.requires.whole c.args.spot c.args.provider c.requires.here)) after.count after.amid _ _ _ _
    (seen-at seen c.args.providers.now c.args.provider c.index-providers-index.result
    (omega (arith, less, c.requires.there)))
    (map-set seen c.args.providers.now c.args.provider c.fetch.new.from) made.3

pub returns-clause-left : goal.returns-clause-left
returns-clause-left g c =
    let p = c.args.self.now in
    let some : 0 < p.left = fetch_some p c.requires.whole c.args.spot c.args.provider c.requires.here in
    falls_by p _ c.requires.whole (returns-clause-whole g c) (omega (arith, some))

pub returns-clause-calls : goal.returns-clause-calls
returns-clause-calls g c =
    let less = fetch_within c.args.self.now c.requires.whole c.args.spot c.args.provider c.requires.here in
    called-only g.P.Provider.calls c.args.providers.now c.args.provider c.index-providers-index.result
    c.fetch.new.from (omega (arith, less, c.requires.there)) c.fetch.ensures.called
