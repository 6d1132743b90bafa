use Rattle.column_defs.proofs.Words.{refl, symbol_of}
use Rattle.column_defs.proofs.laws.worked_layout.Goals as goal

pub returns-clause-first : goal.returns-clause-first
unfolding symbol_of
returns-clause-first c = refl

pub returns-clause-past : goal.returns-clause-past
unfolding symbol_of
returns-clause-past c = refl

pub returns-clause-last : goal.returns-clause-last
unfolding symbol_of
returns-clause-last c = refl
