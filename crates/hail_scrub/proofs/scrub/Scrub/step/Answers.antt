use Rattle.hail_scrub.proofs.Words.{List, map, sym, subst, Provider, provider_seen, CallsOnly, ScrubView, next_to_do, called_by, provider_by, ScrubStands, MakesScrubStep, scrub_view}
use Rattle.hail_scrub.proofs.Machine.{made_step}
use Rattle.hail_scrub.proofs.Overs.{cursor_ends, over_is}
use Rattle.hail_scrub.proofs.Sights.{map_twice, step_by}
use Rattle.hail_scrub.proofs.scrub.Scrub.step.Goals as goal

pub returns-clause-machine : goal.returns-clause-machine
returns-clause-machine g c = λ w m is_told stands.
    let seen = provider_seen g.P.Provider in
    let by = provider_by is_told in
    let ps = map seen c.args.providers.now in
    let qs = map seen c.step.new.providers in
    let v = scrub_view c.self.inside.progress in
    let new = scrub_view c.step.new.self in
    subst (λ (l : List Provider). MakesScrubStep w m c.step.result new l)
    (map_twice by seen c.step.new.providers)
    (made_step v (map by ps) w m
    (subst (λ (z : ScrubView). ScrubStands z (map by ps) w m) (sym c.self.view_is)
    (subst (λ (l : List Provider). ScrubStands c.args.self.now l w m)
    (sym (map_twice by seen c.args.providers.now)) stands))
    c.step.result new (map by qs) (step_by is_told v ps c.step.result new qs c.step.ensures.step))

pub returns-clause-calls : goal.returns-clause-calls
returns-clause-calls g c = subst (λ (v : ScrubView). CallsOnly g.P.Provider.calls (called_by (next_to_do v))
    c.args.providers.now c.step.new.providers) c.self.view_is c.step.ensures.calls

pub returns-clause-over : goal.returns-clause-over
returns-clause-over g c =
    let seen = provider_seen g.P.Provider in
    let p = c.self.inside.progress in
    over_is (scrub_view p) (map seen c.args.providers.now) c.step.result (scrub_view c.step.new.self)
    (map seen c.step.new.providers) (cursor_ends p.providers p.items.items p.off p.cursor) c.step.ensures.step
