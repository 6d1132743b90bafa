use Rattle.stories.proofs.Words.{◌∷◌, ◌++◌, subst, Packed, done_by, AsksDamageOf, Ended, Once, RunJob, got_behind, IsToldReplay}
use Rattle.machine_defs.specs.Answers.{Upgraded}
use Rattle.machine_defs.specs.Events.{BeginPack}
use Rattle.stories.specs.Words.{Begin, Put, Begun, UpgradeJob}
use Rattle.stories.specs.Files.{put_of}
use Rattle.stories.proofs.Keeping.{both-asks, both-names, three-apart, as-many}
use Rattle.stories.proofs.upkeep.packed_files_are_got.Goals as goal

pub returns : goal.returns
returns c =
    λ words text front middle between behind us ts vs rs name bytes own p u k g full short ps how start ms old new
    end I many some more told leaves asks asks_between asks_later tell before names_later names_between names.
    (let put = put_of front name bytes own p in
    let all = behind ++ done_by BeginPack k (between ++ done_by (Begin UpgradeJob) u middle) in
    let outcomes = rs ++ Ended (Packed full short) ∷ Begun k ∷ (vs ++ Ended Upgraded ∷ Begun u ∷ ts) in
    let apart = three-apart behind between middle put (RunJob k) (Once BeginPack) (RunJob u)
    (Once (Begin UpgradeJob)) in
    let told_apart = three-apart rs vs ts (Ended Put ∷ Begun p ∷ us) (Ended (Packed full short)) (Begun k)
    (Ended Upgraded) (Begun u) in
    c.kept_files_are_got.ensures words text front all us outcomes name bytes own p g ps how start ms old new end
    (subst (λ os. IsToldReplay words text (got_behind (all ++ put) name g) (Ended how ∷ Begun g ∷ os) start ms old
    new end) told_apart
    (subst (λ cs. IsToldReplay words text (got_behind cs name g) (Ended how ∷ Begun g ∷ (rs
    ++ Ended (Packed full short) ∷ Begun k ∷ (vs ++ Ended Upgraded ∷ Begun u ∷ (ts ++ Ended Put ∷ Begun p ∷ us))))
    start ms old new end) apart I))
    (as-many rs vs ts (Ended (Packed full short)) (Begun k) (Ended Upgraded) (Begun u) behind between middle
    (RunJob k) (Once BeginPack) (RunJob u) (Once (Begin UpgradeJob)) many some more) told leaves
    (both-asks name behind (done_by BeginPack k (between ++ done_by (Begin UpgradeJob) u middle)) asks_later
    ((λ on. on), both-asks name between (done_by (Begin UpgradeJob) u middle) asks_between ((λ on. on), asks)))
    tell before (subst (AsksDamageOf ps) apart
    (both-names ps behind (done_by BeginPack k (between ++ done_by (Begin UpgradeJob) u (middle ++ put)))
    names_later (tt, both-names ps between (done_by (Begin UpgradeJob) u (middle ++ put)) names_between (tt, names)))))
