use Rattle.hail_syndrome.proofs.ZeroLaw.{values_from_zero, zero_from_values}
use Rattle.hail_syndrome.proofs.laws.syndromes_are_zero_at_values_of_polynomial.Goals as goal

pub returns : goal.returns
returns c points values keep m apart even size = (
  values_from_zero points values even apart keep m size,
  zero_from_values points values even apart keep m size,
)
