use Rattle.machine_defs.specs.Begins.{beginning}
use Rattle.lone_laws.proofs.Walk.{walk-begin}
use Rattle.lone_laws.proofs.laws.begins_walk.Goals as goal

pub returns : goal.returns
returns c moment number start new kind own O spelled named h =
    (let r = walk-begin moment number start new kind own named O spelled h in
    (beginning start moment kind own, r.0, r.1))
