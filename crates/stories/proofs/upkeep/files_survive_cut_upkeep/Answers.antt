use Rattle.stories.proofs.Words.{◌∷◌, ◌++◌, subst, sym, ◌∙◌, append_assoc, arith, AsksDamageOf, Ended, devices_of_seen, called_behind, got_behind, IsToldReplay}
use Rattle.stories.specs.Words.{Put, Begun}
use Rattle.stories.specs.Files.{put_of}
use Rattle.stories.proofs.Keeping.{both-asks, both-names, cut_by, cut-keeps, cut-apart, cut-length, both-many}
use Rattle.stories.proofs.upkeep.files_survive_cut_upkeep.Goals as goal

pub returns : goal.returns
returns c =
    λ words text front middle cut us ts rs event k picks name bytes own p g ps how start ms old new end I keeps steps
    many more told leaves asks tell before names.
    (let put = put_of front name bytes own p in
    let all = cut_by event picks cut ++ middle in
    let N = cut-keeps event picks cut k name ps keeps steps in
    let apart = cut-apart event picks cut middle put in
    let K = c.kept_files_are_got.ensures words text front all us (rs ++ ts) name bytes own p g ps how start ms old
    new end
    (subst (λ os. IsToldReplay words text (got_behind (all ++ put) name g) (Ended how ∷ Begun g ∷ os) start ms old
    new end) (sym (append_assoc rs ts (Ended Put ∷ Begun p ∷ us)))
    (subst (λ cs. IsToldReplay words text (got_behind cs name g)
    (Ended how ∷ Begun g ∷ (rs ++ (ts ++ Ended Put ∷ Begun p ∷ us))) start ms old new end) apart I))
    (both-many rs ts (cut_by event picks cut) middle (many ∙ sym (cut-length event picks cut)) more) told leaves
    (both-asks name (cut_by event picks cut) middle N.0 asks) tell before
    (subst (AsksDamageOf ps) (sym (append_assoc (cut_by event picks cut) middle put))
    (both-names ps (cut_by event picks cut) (middle ++ put) N.1 names)) in
    let G = K.0 in
    let F = c.stored_files_are_kept.ensures 8 start (G.ms ++ called_behind start ms) name bytes G.left.starts
    G.left.run G.get.still in (
      K,
      (
        F.file,
        F.size,
        c.images_of_devices.ensures (devices_of_seen new) _ name F.file G.left.devices
            (c.runs_are_sound.ensures 8 start (G.ms ++ called_behind start ms) (omega arith, omega arith)
            G.left.starts G.left.run) F.kept,
      ),
    ))
