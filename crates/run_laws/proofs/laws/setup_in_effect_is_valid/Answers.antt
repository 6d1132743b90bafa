use Rattle.run_laws.proofs.InEffect.{valid_setup, valid_shape}
use Rattle.run_laws.proofs.laws.setup_in_effect_is_valid.Goals as goal

pub returns-clause-grammar : goal.returns-clause-grammar
returns-clause-grammar c = valid_setup

pub returns-clause-shape : goal.returns-clause-shape
returns-clause-shape c limit start ms s clean run h = valid_shape s (valid_setup limit start ms s clean run h)
