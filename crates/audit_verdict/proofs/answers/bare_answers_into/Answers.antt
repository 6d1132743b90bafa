use Rattle.audit_verdict.proofs.Words.{◌∙◌, ap, arith, get_or, get_or_default, bare_answer, shaped_object, asked}
use Rattle.std.proofs.Common.{ℕ, None}
use Rattle.audit_verdict.proofs.Places.{put_more, bare_answers-each}
use Rattle.audit_verdict.proofs.answers.bare_answers_into.Goals as goal

pub loop-j-preserved : goal.loop-j-preserved
loop-j-preserved c =
    let o = shaped_object c.args.master.now.0 c.args.file.now in
    let question = asked c.args.drawn.now.challenge in
    let heard = c.args.heard.now in
    put_more (λ (k : ℕ). bare_answer o question k (get_or heard k None)) c.loop-j.out c.loop-j.j
    c.bare_answer.result None (omega arith)
    (c.bare_answer.ensures
    ∙ ap (bare_answer o question c.loop-j.j) (c.index-heard-j.is
    ∙ get_or_default heard c.loop-j.j c.index-heard-j.result None (omega arith)))
    c.loop-j.invariant

pub returns : goal.returns
returns c =
    bare_answers-each (shaped_object c.args.master.now.0 c.args.file.now) (asked c.args.drawn.now.challenge)
    c.args.heard.now c.loop-j.out (omega arith) (λ k below. c.loop-j.invariant k (omega (arith, below)))
