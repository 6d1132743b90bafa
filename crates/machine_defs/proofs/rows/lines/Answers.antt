use Rattle.machine_defs.proofs.Words.{refl, digits}
use Rattle.machine_defs.proofs.rows.lines.Goals as goal

pub returns-clause-audited : goal.returns-clause-audited
unfolding digits
returns-clause-audited c = refl

pub returns-clause-bad_journal : goal.returns-clause-bad_journal
unfolding digits
returns-clause-bad_journal c = refl

pub returns-clause-waiting : goal.returns-clause-waiting
unfolding digits
returns-clause-waiting c = refl

pub returns-clause-names : goal.returns-clause-names
unfolding digits
returns-clause-names c = refl
