use Rattle.epoch_laws.proofs.Epochs.{setup_stays}
use Rattle.epoch_laws.proofs.laws.setups_in_effect_stay.Goals as goal

pub returns : goal.returns
returns c = setup_stays
