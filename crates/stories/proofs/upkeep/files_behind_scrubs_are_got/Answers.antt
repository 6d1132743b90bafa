use Rattle.stories.proofs.Words.{[], ◌∷◌, ◌++◌, ap, subst, ◌∙◌, Touches, ByScrubs, Ended, called_behind, got_behind, WasTold}
use Rattle.stories.specs.Words.{Put, Begun}
use Rattle.stories.specs.Files.{put_of}
use Rattle.stories.proofs.Puts.{called-free}
use Rattle.stories.proofs.Told.{job-told, last-told, over-but, scrubs-but, got-back}
use Rattle.stories.proofs.upkeep.files_behind_scrubs_are_got.Goals as goal

pub returns : goal.returns
returns c =
    λ words text front middle us ts name bytes own p g named how start ms old new end I many told leaves asks tell
    before B.
    (let commands = got_behind (middle ++ put_of front name bytes own p) name g in
    let first = ts ++ Ended Put ∷ Begun p ∷ us in
    let R = c.told_replays_are_read.ensures words text commands (Ended how ∷ Begun g ∷ first) start ms old new end
    I in
    let G = last-told R.0 first how g told R.1 in
    let P = job-told G.0 ts us Put p tt G.2 in
    let is = G.1 ∙ ap (λ l. Ended how ∷ Begun g ∷ l) P.is in
    let W = subst (λ o. WasTold commands o start ms new end) is R.2 in
    let K = c.files_behind_scrubs_are_got.ensures 8 start (called_behind start ms) W.later front middle P.before
    P.behind name bytes own p g named how W.left.starts tell W.left.run W.reads (P.as_many ∙ many)
    (over-but (Touches name) front P.before us [] P.rests leaves) (called-free name start ms) asks
    (subst (ByScrubs named commands) is (scrubs-but named commands R.0 (Ended how ∷ Begun g ∷ first) R.1 B))
    (tt, before) in
    (got-back commands _ start ms new end W name bytes g how K.0, K.1))
