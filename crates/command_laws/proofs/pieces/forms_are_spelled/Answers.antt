use Rattle.command_laws.proofs.Spelled.{form-spelled}
use Rattle.command_laws.proofs.pieces.forms_are_spelled.Goals as goal

pub returns : goal.returns
returns c = form-spelled
