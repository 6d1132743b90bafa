use Rattle.lone_laws.proofs.Walk.{found, walk-last}
use Rattle.lone_laws.proofs.laws.last_steps_act.Goals as goal

pub returns : goal.returns
returns c moment profile start w new kind job answer O W h =
    (found start O kind w job W, walk-last start O kind w job W moment new answer h)
