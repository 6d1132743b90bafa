use Rattle.hail_syndrome.proofs.Worked.{six_apart, line_values, line_zero}
use Rattle.hail_syndrome.proofs.laws.a_line_has_no_syndromes.Goals as goal

pub returns-clause-points : goal.returns-clause-points
returns-clause-points c = six_apart

pub returns-clause-values : goal.returns-clause-values
returns-clause-values c = line_values

pub returns-clause-zero : goal.returns-clause-zero
returns-clause-zero c = line_zero
