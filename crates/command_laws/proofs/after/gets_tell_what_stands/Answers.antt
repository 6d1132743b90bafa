use Rattle.command_laws.proofs.Chains.{get-complete, get-right, get-missing}
use Rattle.command_laws.proofs.Emptied.{get-empty}
use Rattle.command_laws.proofs.after.gets_tell_what_stands.Goals as goal

pub returns-clause-complete : goal.returns-clause-complete
returns-clause-complete c name bytes records spoilt old new end A K H steady few disk sink =
    get-complete name bytes records spoilt old new end A.0 K H steady few disk sink

pub returns-clause-right : goal.returns-clause-right
returns-clause-right c name bytes records spoilt old new end A K H steady few zero =
    get-right name bytes records spoilt old new end A.0 K H steady few zero

pub returns-clause-missing : goal.returns-clause-missing
returns-clause-missing c name records old new end A K named none disk =
    get-missing name records old new end A.0 K named none disk

pub returns-clause-empty : goal.returns-clause-empty
returns-clause-empty c name records file old new end A K in_effect none =
    get-empty name records file old new end in_effect none K A.0
