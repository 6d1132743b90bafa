use Rattle.stories.proofs.Words.{[], ◌∷◌, ByScrubs}
use Rattle.stories.proofs.upkeep.kept_files_are_got.Goals as goal

pub returns : goal.returns
returns c =
    λ words text front middle us ts name bytes own p g ps how start ms old new end I many told leaves asks tell before
    names. c.files_behind_scrubs_are_got.ensures words text front middle us ts name bytes own p g (ps ∷ []) how start ms
    old new end I many told leaves asks tell before (ByScrubs.first ps _ _ (tt, names))
