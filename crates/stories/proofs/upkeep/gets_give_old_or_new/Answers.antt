use Rattle.stories.proofs.Words.{[], ◌∷◌, ◌++◌, job_behind, ByScrubs, Ended}
use Rattle.machine_defs.specs.Events.{put_event}
use Rattle.stories.specs.Words.{Begin, Begun, Put, GetJob}
use Rattle.stories.proofs.upkeep.gets_give_old_or_new.Goals as goal

pub returns : goal.returns
returns c =
    λ words text front beside middle between behind us vs ts ws rs name bytes other own p g ps how start ms old new end
    I many some more last none_g none_p told leaves asks only tell before names.
    c.gets_behind_scrubs_give_old_or_new.ensures words text front beside middle between behind us vs ts ws rs name bytes
    other own p g (ps ∷ []) how start ms old new end I many some more last none_g none_p told leaves asks only tell before
    (ByScrubs.first ps (job_behind behind between (Begin (GetJob name)) g
    (job_behind middle beside (put_event own name bytes) p front))
    (rs ++ Ended how ∷ (ws ++ Begun g ∷ (ts ++ Ended Put ∷ (vs ++ Begun p ∷ us)))) names)
