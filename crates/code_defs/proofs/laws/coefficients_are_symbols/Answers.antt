use Rattle.code_defs.proofs.Symbols.{near_symbols, accepted_symbols}
use Rattle.code_defs.proofs.laws.coefficients_are_symbols.Goals as goal

pub returns-clause-near : goal.returns-clause-near
returns-clause-near c = λ number block p symbols near. near_symbols number block p symbols near

pub returns-clause-accepted : goal.returns-clause-accepted
returns-clause-accepted c = λ points seen l b p apart at symbols room accepted. accepted_symbols points seen l
    b p apart at symbols room accepted
