use Rattle.state_laws.proofs.Events.{events-sound}
use Rattle.state_laws.proofs.laws.sound_states_stay_sound.Goals as goal

pub returns : goal.returns
returns c limit moment old new event outcome fits spelled S h =
    events-sound limit moment old S fits event outcome new spelled h
