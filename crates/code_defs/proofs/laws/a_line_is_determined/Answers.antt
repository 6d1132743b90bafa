use Rattle.code_defs.proofs.Words.{arith, nim_laws, nim_endless}
use Rattle.code_defs.proofs.Worked.{line_takes, line_interpolates, line_everywhere, line_trimmed, line_divided}
use Rattle.code_defs.proofs.laws.a_line_is_determined.Goals as goal

pub returns-clause-field : goal.returns-clause-field
returns-clause-field c = (nim_laws, nim_endless, ((omega arith, tt), (tt, tt)))

pub returns-clause-takes : goal.returns-clause-takes
returns-clause-takes c = line_takes

pub returns-clause-interpolates : goal.returns-clause-interpolates
returns-clause-interpolates c = line_interpolates

pub returns-clause-everywhere : goal.returns-clause-everywhere
returns-clause-everywhere c = λ x. line_everywhere x

pub returns-clause-trimmed : goal.returns-clause-trimmed
returns-clause-trimmed c = line_trimmed

pub returns-clause-divided : goal.returns-clause-divided
returns-clause-divided c = λ x. line_divided x
