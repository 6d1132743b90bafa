use Rattle.device_defs.proofs.ImageLaws.{by_offset, from_offset}
use Rattle.device_defs.proofs.laws.images.Goals as goal

pub returns : goal.returns
returns c = λ cells image. (by_offset cells image, from_offset cells image)
