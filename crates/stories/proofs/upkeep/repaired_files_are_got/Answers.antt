use Rattle.stories.proofs.Words.{[], ◌∷◌, ◌++◌, ap, subst, ◌∙◌, arith, AreOver, Touches, Relies, done_by, Ended, NoneUnderWay, call_from, called_behind, got_behind, WasTold}
use Rattle.machine_defs.specs.Answers.{Audited, Repaired}
use Rattle.machine_defs.specs.Jobs.{AuditJob, RepairJob}
use Rattle.stories.specs.Words.{Begin, Put, Begun, now}
use Rattle.stories.specs.Files.{put_of}
use Rattle.stories.proofs.Puts.{called-free}
use Rattle.stories.proofs.Told.{told-among, job-told, last-told, over-but, got-back}
use Rattle.stories.proofs.upkeep.repaired_files_are_got.Goals as goal

pub returns : goal.returns
returns c =
    λ words text front middle between behind us ts vs rs name bytes own p a r g number undecided counts ps qs how
    start ms old new end I many some more told leaves asks asks_between asks_later none_audits audits_front
    audits_middle audits_between is_over tell before names names_between names_later.
    (let audit = done_by (Begin AuditJob) a (middle ++ put_of front name bytes own p) in
    let commands = got_behind (behind ++ done_by (Begin RepairJob) r (between ++ audit)) name g in
    let first = ts ++ Ended Put ∷ Begun p ∷ us in
    let audited = vs ++ Ended (Audited number undecided counts) ∷ Begun a ∷ first in
    let repaired = rs ++ Ended (Repaired number) ∷ Begun r ∷ audited in
    let R = c.told_replays_are_read.ensures words text commands (Ended how ∷ Begun g ∷ repaired) start ms old new
    end I in
    let repair_told = told-among rs (Ended (Repaired number)) (Begun r ∷ audited) I.told.1.1 in
    let audit_told = told-among vs (Ended (Audited number undecided counts)) (Begun a ∷ first) repair_told.1.1 in
    let G = last-told R.0 repaired how g told R.1 in
    let M = job-told G.0 rs audited (Repaired number) r repair_told.0 G.2 in
    let A = job-told M.before vs first (Audited number undecided counts) a audit_told.0 M.rests in
    let P = job-told A.before ts us Put p tt A.rests in
    let audit_is = A.is ∙ ap (λ l. A.behind ++ Ended (Audited number undecided counts) ∷ Begun a ∷ l) P.is in
    let W = subst (λ o. WasTold commands o start ms new end)
    (G.1 ∙ ap (λ l. Ended how ∷ Begun g ∷ l) (M.is
    ∙ ap (λ l. M.behind ++ Ended (Repaired number) ∷ Begun r ∷ l) audit_is)) R.2 in
    let over = subst (AreOver (between ++ audit)) audit_is
    (over-but Relies (between ++ audit) M.before audited [] M.rests is_over) in
    let B = c.repaired_files_are_got.ensures 8 start (called_behind start ms) W.later front middle between behind
    P.before P.behind A.behind M.behind name bytes own p a r g number undecided counts ps qs how
    (omega arith, omega arith) W.left.starts tell W.left.run W.reads (M.as_many ∙ many) (A.as_many ∙ some)
    (P.as_many ∙ more) (over-but (Touches name) front P.before us [] P.rests leaves) (called-free name start ms) asks asks_between asks_later
    ((λ t n is. t), none_audits) (NoneUnderWay.given_up (call_from (now start ms)) ms tt) audits_front
    audits_middle audits_between over (tt, before) names names_between names_later in
    (got-back commands _ start ms new end W name bytes g how B.0, B.1))
