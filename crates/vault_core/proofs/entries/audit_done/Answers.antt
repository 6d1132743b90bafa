use Rattle.vault_core.proofs.Grammar.{audit_done_in_grammar}
use Rattle.vault_core.proofs.entries.audit_done.Goals as goal

pub returns-clause-in_grammar : goal.returns-clause-in_grammar
returns-clause-in_grammar c = λ least most padded. audit_done_in_grammar c.args.number c.args.undecided
    c.args.counts c.ranges.number.fits c.ranges.undecided.fits least most padded c.fit.ensures
