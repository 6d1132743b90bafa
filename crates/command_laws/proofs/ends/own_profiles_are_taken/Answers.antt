use Rattle.command_laws.proofs.Begun.{own-begins}
use Rattle.command_laws.proofs.ends.own_profiles_are_taken.Goals as goal

pub returns : goal.returns
returns c = own-begins
