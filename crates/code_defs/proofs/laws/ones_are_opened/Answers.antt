use Rattle.code_defs.proofs.Worked.{ones_symbols, ones_near, four_apart, four_symbols, word_symbols, ones_accepted}
use Rattle.code_defs.proofs.laws.ones_are_opened.Goals as goal

pub returns-clause-block : goal.returns-clause-block
returns-clause-block c = ones_symbols

pub returns-clause-near : goal.returns-clause-near
returns-clause-near c = ones_near

pub returns-clause-points : goal.returns-clause-points
returns-clause-points c = (four_apart, four_symbols)

pub returns-clause-seen : goal.returns-clause-seen
returns-clause-seen c = word_symbols

pub returns-clause-accepted : goal.returns-clause-accepted
returns-clause-accepted c = ones_accepted
