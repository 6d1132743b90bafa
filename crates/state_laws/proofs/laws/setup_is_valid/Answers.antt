use Rattle.state_laws.proofs.Records.{setup-spelled}
use Rattle.state_laws.proofs.Written.{set_up-in, setup-valid}
use Rattle.state_laws.proofs.Given.{valid-shape}
use Rattle.machine_defs.specs.States.{setup_in}
use Rattle.state_laws.proofs.laws.setup_is_valid.Goals as goal

pub returns-clause-in_effect : goal.returns-clause-in_effect
returns-clause-in_effect c limit w s S h = setup-spelled w.records s S.spelled h

pub returns-clause-opened : goal.returns-clause-opened
returns-clause-opened c = set_up-in

pub returns-clause-grammar : goal.returns-clause-grammar
returns-clause-grammar c = setup-valid

pub returns-clause-shape : goal.returns-clause-shape
returns-clause-shape c limit w S h = valid-shape (setup_in w) (setup-valid limit w S h)
