use Rattle.state_laws.proofs.Resting.{rest-sound}
use Rattle.state_laws.proofs.laws.rest_is_sound.Goals as goal

pub returns : goal.returns
returns c = rest-sound
