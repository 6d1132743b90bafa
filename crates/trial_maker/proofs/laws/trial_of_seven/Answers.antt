use Rattle.std.proofs.Common.{refl}
use Rattle.trial_maker.specs.Draws.{draw, bytes_behind}
use Rattle.trial_maker.proofs.laws.trial_of_seven.Goals as goal

pub returns-clause-draw : goal.returns-clause-draw
unfolding draw
returns-clause-draw c = refl

pub returns-clause-first : goal.returns-clause-first
unfolding draw
returns-clause-first c = refl

pub returns-clause-second : goal.returns-clause-second
unfolding draw
returns-clause-second c = refl

pub returns-clause-third : goal.returns-clause-third
unfolding draw
returns-clause-third c = refl

pub returns-clause-key : goal.returns-clause-key
unfolding draw bytes_behind
returns-clause-key c = refl

pub returns-clause-front : goal.returns-clause-front
unfolding draw bytes_behind
returns-clause-front c = refl
