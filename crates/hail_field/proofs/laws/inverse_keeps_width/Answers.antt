use Rattle.hail_field.proofs.AllNumbers.{nim_inv-lt, nim_mul_inv}
use Rattle.hail_field.proofs.laws.inverse_keeps_width.Goals as goal

pub returns-clause-within : goal.returns-clause-within
returns-clause-within c = λ level a below. nim_inv-lt level a below

pub returns-clause-inverse : goal.returns-clause-inverse
returns-clause-inverse c = λ level a below some. nim_mul_inv a some
