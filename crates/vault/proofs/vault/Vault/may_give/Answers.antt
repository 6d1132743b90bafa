use Rattle.vault.proofs.Words.{sym, ap, is_some}
use Rattle.vault.proofs.vault.Vault.may_give.Goals as goal

pub may_give-requires-clause-at_work : goal.may_give-requires-clause-at_work
may_give-requires-clause-at_work c = c.args.self.now.at_work

pub may_give-requires-clause-wants : goal.may_give-requires-clause-wants
may_give-requires-clause-wants c = sym c.in-Some.ensures

pub returns-in-Some-clause-wants : goal.returns-in-Some-clause-wants
returns-in-Some-clause-wants c = λ yes. ap is_some (sym c.in-Some.ensures)

pub returns-in-Some-clause-piece : goal.returns-in-Some-clause-piece
returns-in-Some-clause-piece c = λ yes. (rw c.in-Some.ensures at (c.may_give.ensures.yes yes))

pub returns-in-Some-clause-refused : goal.returns-in-Some-clause-refused
returns-in-Some-clause-refused c = λ no piece. c.may_give.ensures.no no (rw (← c.in-Some.ensures) at piece)
