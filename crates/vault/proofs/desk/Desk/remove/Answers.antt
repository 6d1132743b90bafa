use Rattle.vault.proofs.Words.{refl, map-set, sight, called-only, seen-at}
use Rattle.vault.proofs.RemoveStep.{remove_step}
use Rattle.vault.proofs.Replies.{replies}
use Rattle.vault.proofs.Untold.{removes_by}
use Rattle.vault.proofs.desk.Desk.remove.Goals as goal

pub returns-clause-machine : goal.returns-clause-machine
returns-clause-machine g c = λ w moment holds faults is_told stands.
    let seen = sight is_told g.P.Provider in
    remove_step c.args.self.now w holds faults moment c.args.job _ _ _ stands c.requires.next
    _ _ _ _ (removes_by is_told _ _ _ c.remove_from.ensures.removed)
    (seen-at seen c.args.providers.now c.args.provider c.index-providers-index.result c.requires.there)
    (map-set seen c.args.providers.now c.args.provider c.remove_from.new.from)
    refl
    (record { setup = refl; master = refl; shape = refl; base = refl })
    refl
    (record {
      step = c.feed.ensures.step;
      streams = record { setup = c.feed.ensures.setup; none = c.feed.ensures.streams; told = c.feed.ensures.told };
    })

pub bounds-providers-index : goal.bounds-providers-index
bounds-providers-index g c = c.requires.there

pub feed-requires-clause-reply : goal.feed-requires-clause-reply
feed-requires-clause-reply g c = replies c.args.self.now.core c.args.job _ _ c.requires.next.value tt

pub feed-requires-clause-given : goal.feed-requires-clause-given
feed-requires-clause-given g c = c.requires.next.wants

pub returns-clause-calls : goal.returns-clause-calls
returns-clause-calls g c = called-only g.P.Provider.calls c.args.providers.now c.args.provider
    c.index-providers-index.result c.remove_from.new.from c.requires.there c.remove_from.ensures.called

pub returns-clause-acted : goal.returns-clause-acted
returns-clause-acted g c = record {
  acted = λ none. none;
  left = λ more. c.feed.ensures.falls;
  padded = tt;
  streams = record { setup = c.feed.ensures.setup; none = c.feed.ensures.streams; told = c.feed.ensures.told };
}
