use Rattle.vault.proofs.vault.Vault.give.Goals as goal

pub give-requires-clause-at_work : goal.give-requires-clause-at_work
give-requires-clause-at_work c = c.args.self.now.at_work

pub invariant_of-self : goal.invariant_of-self
invariant_of-self c = record { at_work = c.give.ensures.at_work }

pub returns-clause-stands : goal.returns-clause-stands
returns-clause-stands c = λ w d S fits.
    record { free = S.free; desk = c.give.ensures.stands w d S.desk fits }

pub returns-clause-more : goal.returns-clause-more
returns-clause-more c = c.give.ensures.takes.more

pub returns-clause-closed : goal.returns-clause-closed
returns-clause-closed c = c.give.ensures.takes.closed

pub returns-clause-wants : goal.returns-clause-wants
returns-clause-wants c = c.give.ensures.takes.wants

pub returns-clause-left : goal.returns-clause-left
returns-clause-left c = c.give.ensures.takes.left
