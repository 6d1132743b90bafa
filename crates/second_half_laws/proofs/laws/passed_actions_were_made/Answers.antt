use Rattle.second_half_laws.proofs.MadeFacts.{facts}
use Rattle.second_half_laws.proofs.Wholes.{doubt_made}
use Rattle.second_half_laws.proofs.laws.passed_actions_were_made.Goals as goal

pub returns-clause-running : goal.returns-clause-running
returns-clause-running c limit start ms number job place action clean run runs early at =
    ((facts limit start clean ms run).made number job place action runs early at).0

pub returns-clause-in_doubt : goal.returns-clause-in_doubt
returns-clause-in_doubt c limit start ms d job place action clean run in_doubt maker early at =
    doubt_made limit start clean ms run d job place action in_doubt maker early at
