use Rattle.stories.proofs.Words.{[], ◌∷◌, ByScrubs}
use Rattle.stories.proofs.upkeep.every_get_ends_well.Goals as goal

pub returns : goal.returns
returns c =
    λ words text front between behind us ts rs name g ps how start ms old new end I many some none told tell before
    names. c.every_get_behind_scrubs_ends_well.ensures words text front between behind us ts rs name g (ps ∷ []) how start
    ms old new end I many some none told tell before (ByScrubs.first ps _ _ names)
