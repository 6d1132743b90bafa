use Rattle.journal_core.proofs.AreaImages.{images_stand}
use Rattle.journal_core.proofs.laws.firm_areas_stand.Goals as goal

pub returns : goal.returns
returns c = images_stand
