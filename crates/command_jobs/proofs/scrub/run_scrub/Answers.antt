use Rattle.command_jobs.proofs.Words.{◌≡◌, ◌≤◌, map, sym, ◌∙◌, arith, length-map, provider_seen}
use Rattle.command_jobs.proofs.Scrubbing.{never-refused, scrub-ends}
use Rattle.command_jobs.proofs.scrub.run_scrub.Goals as goal

pub unreachable-requires : goal.unreachable-requires
unreachable-requires g c =
    let r = c.requires.ready in
    let seen = provider_seen g.P.Provider in
    never-refused c.opened_states.ensures c.args.vault r.2.area r.2.records r.0 r.1 r.2.fresh
    c.open_vaults_refuse_no_scrub.ensures c.hold.new.self c.in-Err.field-0
    (map seen c.args.providers.now) (let a = r.2.enough in let b = length-map c.args.providers.now seen in
    omega (arith, a, b)) c.in-Err.ensures.holds

pub returns-clause-ended : goal.returns-clause-ended
returns-clause-ended g c = λ records holds faults old new opened fresh before after.
    let seen = provider_seen g.P.Provider in
    scrub-ends c.args.vault records holds faults old new opened fresh c.scrubs_begin.ensures.happens
    c.scrubs_begin.ensures.stands c.told_scrubs_leave.ensures
    c.vaults_stand_over_other_providers.ensures.beside c.hold.new.self c.in-Ok.field-0 c.in_ok-scrub.scrub
    c.sweep-answer.result (map seen c.args.providers.now) (map seen c.sweep-answer.new.providers)
    c.in-Ok.ensures.holds c.in_ok-scrub.ensures.begun c.sweep-answer.ensures
    (length-map c.sweep-answer.new.providers seen
    ∙ (c.sweep-answer.auto.providers ∙ sym (length-map c.args.providers.now seen))) before after
