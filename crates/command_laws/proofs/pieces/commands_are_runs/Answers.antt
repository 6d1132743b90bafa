use Rattle.command_laws.proofs.GoingOn.{command-on}
use Rattle.command_laws.proofs.Between.{later-on, chain-on, sure-store}
use Rattle.command_laws.proofs.pieces.commands_are_runs.Goals as goal

pub returns-clause-call : goal.returns-clause-call
returns-clause-call x start ms command old new end R S opens spelled A counts =
    command-on start ms R old S command new end counts opens spelled A

pub returns-clause-later : goal.returns-clause-later
returns-clause-later x = later-on

pub returns-clause-known : goal.returns-clause-known
returns-clause-known x = sure-store

pub returns-clause-chain : goal.returns-clause-chain
returns-clause-chain x = chain-on
