use Rattle.state_laws.proofs.Resting.{start-sound}
use Rattle.state_laws.proofs.laws.start_is_sound.Goals as goal

pub returns : goal.returns
returns c = start-sound
