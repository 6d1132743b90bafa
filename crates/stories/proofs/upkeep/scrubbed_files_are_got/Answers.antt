use Rattle.stories.proofs.Words.{[], ◌∷◌, ◌++◌, ap, subst, ◌∙◌, Scrubbed, Touches, done_by, Ended, called_behind, got_behind, WasTold}
use Rattle.machine_defs.specs.Events.{BeginScrub}
use Rattle.stories.specs.Words.{Put, Begun}
use Rattle.stories.specs.Files.{put_of}
use Rattle.stories.proofs.Puts.{called-free}
use Rattle.stories.proofs.Told.{job-told, scrub-told, last-told, over-but, got-back}
use Rattle.stories.proofs.upkeep.scrubbed_files_are_got.Goals as goal

pub returns : goal.returns
returns c =
    λ words text front middle behind us ts rs name bytes own p s g stripes symbols blocks ps qs how start ms old
    new end I many more told leaves asks asks_later tell before names names_later.
    (let commands =
    got_behind (behind ++ done_by BeginScrub s (middle ++ put_of front name bytes own p)) name g in
    let first = ts ++ Ended Put ∷ Begun p ∷ us in
    let sweep = rs ++ Ended (Scrubbed stripes symbols blocks) ∷ Begun s ∷ first in
    let R = c.told_replays_are_read.ensures words text commands (Ended how ∷ Begun g ∷ sweep) start ms old new
    end I in
    let G = last-told R.0 sweep how g told R.1 in
    let S = scrub-told G.0 rs first stripes symbols blocks s G.2 in
    let P = job-told S.1.before ts us Put p tt S.1.rests in
    let W = subst (λ o. WasTold commands o start ms new end)
    (G.1 ∙ ap (λ l. Ended how ∷ Begun g ∷ l) (S.1.is
    ∙ ap (λ l. S.1.behind ++ Ended (Scrubbed stripes symbols S.0) ∷ Begun s ∷ l) P.is)) R.2 in
    let B = c.scrubbed_files_are_got.ensures 8 start (called_behind start ms) W.later front middle behind
    P.before P.behind S.1.behind name bytes own p s g stripes symbols S.0 ps qs how W.left.starts tell W.left.run
    W.reads (S.1.as_many ∙ many) (P.as_many ∙ more)
    (over-but (Touches name) front P.before us [] P.rests leaves) (called-free name start ms) asks asks_later
    (tt, before) names names_later in
    (got-back commands _ start ms new end W name bytes g how B.0, B.1))
