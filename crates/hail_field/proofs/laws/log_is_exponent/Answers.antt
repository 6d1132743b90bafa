use Rattle.hail_field.proofs.Words.{◌∙◌, get_or, LOG}
use Rattle.hail_field.proofs.AllNumbers.{nim_pow_at}
use Rattle.hail_field.proofs.Table.{log_at, generator-lt}
use Rattle.hail_field.proofs.laws.log_is_exponent.Goals as goal

pub returns-clause-power : goal.returns-clause-power
returns-clause-power c = nim_pow_at 3 18 (get_or LOG c.args.byte 0) generator-lt
    ∙ (log_at c.args.byte c.ranges.byte.fits c.requires).0

pub returns-clause-below : goal.returns-clause-below
returns-clause-below c = (log_at c.args.byte c.ranges.byte.fits c.requires).1
