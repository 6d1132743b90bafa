use Rattle.hail_client.proofs.Words.{sym, ◌∙◌, is_some-none, with_master}
use Rattle.hail_client.proofs.Begun.{init-open, init-closed}
use Rattle.hail_client.proofs.Anew.{by-told, closed-standing}
use Rattle.hail_client.proofs.client.Client.init.Goals as goal

pub returns-then-is_some-clause-machine : goal.returns-then-is_some-clause-machine
returns-then-is_some-clause-machine g c = λ w providers moment told stands.
    init-open w moment (with_master c.args.setup.now c.args.master.now.0) c.setups_are_spelled.ensures
    c.args.self.now _ (sym c.is_some.ensures ∙ c.if-is_some.true) stands

pub returns-clause-machine : goal.returns-clause-machine
returns-clause-machine g c = λ w providers moment told stands.
    init-closed w moment (with_master c.args.setup.now c.args.master.now.0) c.setups_are_spelled.ensures
    c.args.self.now (g.D.Disk.holds c.args.disk.now) (g.D.Disk.holds c.init.new.disk)
    (g.D.Disk.faults c.args.disk.now) (g.D.Disk.faults c.init.new.disk) providers c.init.result
    (sym c.is_some.ensures ∙ c.if-is_some.false) told (c.init.ensures.machine w providers moment) stands

pub returns-clause-standing : goal.returns-clause-standing
returns-clause-standing g c = λ providers S. by-told (g.D.Disk.holds c.args.disk.now)
    (λ told. (let M = returns-clause-machine g c S.state providers 0 told S.stands in
    record { state = M.state; stands = M.stands }))
    (λ none. closed-standing c.args.self.now
    (g.D.Disk.faults c.init.new.disk) providers (g.D.Disk.holds c.init.new.disk)
    (sym c.is_some.ensures ∙ c.if-is_some.false)
    (is_some-none (g.D.Disk.holds c.init.new.disk) (c.init.ensures.called.tells ∙ none)))
