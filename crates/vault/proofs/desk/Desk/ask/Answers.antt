use Rattle.vault.proofs.Words.{None, refl, arith, [], ∥∥₁_map, map-set, sight, called-only, seen-at}
use Rattle.vault.proofs.AskJoin.{put_there, ask_there, tell_there, ask_step, told_takes}
use Rattle.vault.proofs.AtWork.{by_work, place_there}
use Rattle.vault.proofs.JobPlaces.{item_at, place_within}
use Rattle.vault.proofs.Props.{ask_prop, tell_prop}
use Rattle.vault.proofs.RunningJobs.{runs_next}
use Rattle.vault.proofs.Untold.{asks_by, answered, audits_on}
use Rattle.vault.proofs.desk.Desk.ask.Goals as goal

pub question-question-requires-clause-runs : goal.question-question-requires-clause-runs
question-question-requires-clause-runs g c = runs_next c.args.self.now.core c.args.job _ c.requires.next.value

pub question-question-requires-clause-there : goal.question-question-requires-clause-there
question-question-requires-clause-there g c = ∥∥₁_map (c.requires.at_work (λ number. []) (λ number. refl))
    (λ x. put_there c.args.self.now x.0 None x.1 0 c.args.job _ _ _ x.2 x.3 c.requires.next)

pub place_of-place-requires : goal.place_of-place-requires
place_of-place-requires g c = place_there c.args.self.now c.args.job _ c.requires.next c.requires.at_work

pub ask-requires-clause-there : goal.ask-requires-clause-there
ask-requires-clause-there g c =
    let v = c.args.self.now in
    let place = c.place_of-place.result in
    let running = c.index_mut.result.now in
    let at = c.place_of-place.ensures in
    let there = item_at v.jobs.items c.args.job place running at c.index_mut.ensures.value in
    by_work (ask_prop _ _ running.task) v
    (λ w faults ps stands. ask_there v w None faults 0 c.args.job _ _ _ ps stands c.requires.next place
    running at there c.question-question.result c.question-question.ensures)
    c.requires.at_work

pub reply-reply-requires : goal.reply-reply-requires
reply-reply-requires g c = (let made = c.ask.ensures.asked in audits_on _ _ _ _ _ made.0 made.1)

pub feed-requires-clause-reply : goal.feed-requires-clause-reply
feed-requires-clause-reply g c =
    let v = c.args.self.now in
    let place = c.place_of-place.result in
    let running = c.index_mut.result.now in
    let at = c.place_of-place.ensures in
    let there = item_at v.jobs.items c.args.job place running at c.index_mut.ensures.value in
    let made = c.ask.ensures.asked in
    told_takes v.core c.args.job _ _ _ c.is_last_ask-is_last.result c.ask.new.self c.reply-reply.result
    c.requires.next.value c.is_last_ask-is_last.ensures c.reply-reply.ensures
    (by_work (tell_prop v.core.setup.n c.ask.new.self) v
    (λ w faults ps stands. tell_there v w None faults 0 c.args.job _ _ _ ps stands c.requires.next place
    running at there c.question-question.result c.question-question.ensures c.ask.new.self made.0 made.1)
    c.requires.at_work)

pub returns-clause-machine : goal.returns-clause-machine
returns-clause-machine g c = λ w moment holds faults is_told stands.
    let at = c.place_of-place.ensures in
    let there = item_at c.args.self.now.jobs.items c.args.job c.place_of-place.result
    c.index_mut.result.now at c.index_mut.ensures.value in
    let made = c.ask.ensures.asked in
    let seen = sight is_told g.P.Provider in
    ask_step c.args.self.now w holds faults moment c.args.job _ _ _ _ stands c.requires.next
    c.place_of-place.result c.index_mut.result.now at there c.question-question.result
    c.question-question.ensures
    _ _ _ _ (record { number = c.index_mut.result.now.number; task = c.ask.new.self }) made.0
    c.is_last_ask-is_last.result c.reply-reply.result refl made.1
    (asks_by is_told _ _ _ _ _ (answered _ _ _ _ _ made.0 made.1) made.2)
    (seen-at seen c.args.providers.now c.args.provider c.index-providers-index.result c.requires.there)
    (map-set seen c.args.providers.now c.args.provider c.ask.new.from)
    c.is_last_ask-is_last.ensures
    c.reply-reply.ensures
    refl
    (record { setup = refl; master = refl; shape = refl; base = refl })
    refl
    (record {
      step = c.feed.ensures.step;
      streams = record { setup = c.feed.ensures.setup; none = c.feed.ensures.streams; told = c.feed.ensures.told };
    })

pub index_mut-requires : goal.index_mut-requires
index_mut-requires g c =
    omega (arith, place_within c.args.self.now.jobs.items c.args.job _ c.place_of-place.ensures)

pub bounds-providers-index : goal.bounds-providers-index
bounds-providers-index g c = c.requires.there

pub feed-requires-clause-given : goal.feed-requires-clause-given
feed-requires-clause-given g c = c.requires.next.wants

pub returns-clause-calls : goal.returns-clause-calls
returns-clause-calls g c = called-only g.P.Provider.calls c.args.providers.now c.args.provider
    c.index-providers-index.result c.ask.new.from c.requires.there c.ask.ensures.called

pub returns-clause-acted : goal.returns-clause-acted
returns-clause-acted g c = record {
  acted = λ none. none;
  left = λ more. c.feed.ensures.falls;
  padded = tt;
  streams = record { setup = c.feed.ensures.setup; none = c.feed.ensures.streams; told = c.feed.ensures.told };
}
