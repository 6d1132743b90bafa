use Rattle.device_defs.specs.Told.{IsByte}
use Rattle.device_defs.specs.Picks.{picks_for}
use Rattle.device_defs.proofs.PickLaws.{picked-picks_for, IsImage-picked, All-picks_for}
use Rattle.device_defs.proofs.laws.picks.Goals as goal

pub returns-clause-gives : goal.returns-clause-gives
returns-clause-gives c = IsImage-picked

pub returns-clause-each : goal.returns-clause-each
returns-clause-each c = λ cells image is bytes. (
  picks_for cells image,
  All-picks_for IsByte cells image bytes,
  picked-picks_for cells image is,
)
