use Rattle.audit_verdict.proofs.Words.{◌∙◌, arith, fill_by_all, point_of, point, shaped_object}
use Rattle.audit_verdict.proofs.Places.{put_more}
use Rattle.audit_verdict.proofs.answers.points_into.Goals as goal

pub loop-j-preserved : goal.loop-j-preserved
loop-j-preserved c =
    let file = c.args.file.now in
    let o = shaped_object c.args.master.now.0 file in
    put_more (point o) c.loop-j.out c.loop-j.j c.point.result 0 (omega arith)
    (c.point.ensures ∙ (λ i. point_of (c.from-l.ensures i) c.args.master.now.0 file.id c.loop-j.j))
    c.loop-j.invariant

pub returns : goal.returns
returns c =
    let file = c.args.file.now in
    fill_by_all (point (shaped_object c.args.master.now.0 file)) c.loop-j.out file.shape.n 0 (omega arith)
    (λ k below. c.loop-j.invariant k (omega (arith, below)))
