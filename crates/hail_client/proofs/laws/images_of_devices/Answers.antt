use Rattle.hail_client.proofs.Kept.{images-have}
use Rattle.hail_client.proofs.laws.images_of_devices.Goals as goal

pub returns : goal.returns
returns c = λ d w name file devices sound kept. images-have d.holds w name file sound devices.images kept
