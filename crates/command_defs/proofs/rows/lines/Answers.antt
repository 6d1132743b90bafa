use Rattle.std.proofs.Common.{refl}
use Rattle.std.specs.Fmt.{digits}
use Rattle.command_defs.proofs.rows.lines.Goals as goal

pub returns-clause-stored : goal.returns-clause-stored
unfolding digits
returns-clause-stored c = refl

pub returns-clause-audited : goal.returns-clause-audited
unfolding digits
returns-clause-audited c = refl

pub returns-clause-repaired : goal.returns-clause-repaired
unfolding digits
returns-clause-repaired c = refl

pub returns-clause-listed : goal.returns-clause-listed
unfolding digits
returns-clause-listed c = refl

pub returns-clause-packed : goal.returns-clause-packed
unfolding digits
returns-clause-packed c = refl
