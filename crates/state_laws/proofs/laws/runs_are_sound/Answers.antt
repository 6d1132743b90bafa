use Rattle.state_laws.proofs.Events.{run-sound}
use Rattle.state_laws.proofs.laws.runs_are_sound.Goals as goal

pub returns : goal.returns
returns c = run-sound
