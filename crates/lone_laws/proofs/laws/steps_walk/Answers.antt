use Rattle.lone_laws.proofs.Walk.{walk-step}
use Rattle.lone_laws.proofs.laws.steps_walk.Goals as goal

pub returns : goal.returns
returns c moment profile start w new kind job O W h = walk-step start O kind w job W moment new h
