use Rattle.state_laws.proofs.Events.{run-sound}
use Rattle.state_laws.proofs.laws.journals_are_alike.Goals as goal

pub returns-clause-accepted : goal.returns-clause-accepted
returns-clause-accepted c limit start ms fits clean run =
    (run-sound limit start ms fits clean run).journal.accepted

pub returns-clause-alike : goal.returns-clause-alike
returns-clause-alike c limit start ms fits clean run = (run-sound limit start ms fits clean run).journal.alike
