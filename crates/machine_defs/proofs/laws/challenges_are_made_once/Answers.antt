use Rattle.machine_defs.proofs.Uses.{asked_once}
use Rattle.machine_defs.proofs.laws.challenges_are_made_once.Goals as goal

pub returns : goal.returns
returns c limit start ms begun other number object round clean run g h =
    asked_once limit start ms clean run begun other number object object round round g h
