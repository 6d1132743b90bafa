use Rattle.machine_defs.specs.Untouched.{Touches}
use Rattle.machine_defs.proofs.Untouched.{none_left, none_given_up, none_under_way}
use Rattle.machine_defs.proofs.laws.names_come_free.Goals as goal

pub returns-clause-ended : goal.returns-clause-ended
returns-clause-ended c limit start between older m b number answer name clean run none before begun event ended =
    none_left (Touches name) limit start clean between older m b number answer run none before begun event
    ended

pub returns-clause-given_up : goal.returns-clause-given_up
returns-clause-given_up c limit start m ms name run up = none_given_up (Touches name) limit start m ms run up

pub returns-clause-told : goal.returns-clause-told
returns-clause-told c limit start ms name clean run free =
    none_under_way (Touches name) limit start clean ms free run
