use Rattle.vault_core.proofs.Words.{◌∙◌, ap, Some, option_map, most_of}
use Rattle.vault_core.proofs.Goes.{left_some}
use Rattle.vault_core.proofs.Standing.{left_same}
use Rattle.vault_core.proofs.own.Core.left.Goals as goal

pub returns-in-Some-clause-machine : goal.returns-in-Some-clause-machine
returns-in-Some-clause-machine c = λ w is closed. ap Some c.in-Some.ensures.kept.left ∙ (ap (option_map
    (most_of c.args.self.now.setup)) c.in-Some.ensures.found ∙ left_same c.args.job is closed)

pub returns-in-None-clause-machine : goal.returns-in-None-clause-machine
returns-in-None-clause-machine c =
    λ w is closed. ap (option_map (most_of c.args.self.now.setup)) c.in-None.ensures.found
    ∙ left_same c.args.job is closed

pub returns-in-Some-clause-some : goal.returns-in-Some-clause-some
returns-in-Some-clause-some c = left_some c.in-Some.ensures.kept
