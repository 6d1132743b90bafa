use Rattle.hail_scrub.proofs.Words.{ℕ, Option, sym, subst, CallsOnly}
use Rattle.hail_scrub.proofs.Fetching as fetching
use Rattle.hail_scrub.proofs.Storing as storing
use Rattle.hail_scrub.proofs.progress.Progress.step.Goals as goal

pub returns-in-Fetching-clause-calls : goal.returns-in-Fetching-clause-calls
returns-in-Fetching-clause-calls g c = subst (λ (o : Option ℕ). CallsOnly g.P.Provider.calls o
    c.args.providers.now c.fetch.new.providers) (sym (fetching.called c.args.self.now c.requires.whole
    c.in-Fetching.spot c.in-Fetching.provider c.in-Fetching.is)) c.fetch.ensures.calls

pub returns-in-Storing-clause-calls : goal.returns-in-Storing-clause-calls
returns-in-Storing-clause-calls g c = subst (λ (o : Option ℕ). CallsOnly g.P.Provider.calls o
    c.args.providers.now c.store.new.providers) (sym (storing.called c.args.self.now c.requires.whole
    c.in-Storing.spot c.in-Storing.provider c.in-Storing.is)) c.store.ensures.calls
