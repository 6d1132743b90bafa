use Rattle.vault.proofs.vault.Vault.abandon.Goals as goal

pub abandon-requires-clause-at_work : goal.abandon-requires-clause-at_work
abandon-requires-clause-at_work c = c.args.self.now.at_work

pub invariant_of-self : goal.invariant_of-self
invariant_of-self c = record { at_work = c.abandon.ensures.at_work }

pub returns : goal.returns
returns c = λ w d j S runs. record { free = S.free; desk = c.abandon.ensures.stands w d j S.desk runs }
