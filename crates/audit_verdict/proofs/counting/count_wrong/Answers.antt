use Rattle.audit_verdict.proofs.Words.{◌∙◌, ap, arith, get_or, get_or-set_other, get_or_default, is_seen}
use Rattle.std.proofs.Common.{ℕ, None, length, if◌then◌else◌, ◌+◌}
use Rattle.audit_verdict.proofs.Places.{next_count, put_more, counted-each}
use Rattle.audit_verdict.proofs.counting.count_wrong.Goals as goal

pub loop-j-preserved : goal.loop-j-preserved
loop-j-preserved c =
    let p = c.args.work.now.rest in
    let points = c.args.points.now in
    let answers = c.args.answers.now in
    let counts = c.args.counts.now in
    let j = c.loop-j.j in
    record {
      done = put_more (λ (k : ℕ). next_count p (get_or points k 0) (get_or answers k None)
          (get_or counts k 0)) c.loop-j.counts j c.counted_once.result 0 (omega arith) (c.counted_once.ensures
          ∙ ap (λ v. if is_seen v c.index-answers-j.result then get_or c.loop-j.counts j 0
          else get_or c.loop-j.counts j 0 + 1) c.value.ensures
          ∙ (λ i. next_count p ((c.index-points-j.is
          ∙ get_or_default points j c.index-points-j.result 0 (omega arith)) i)
          ((c.index-answers-j.is ∙ get_or_default answers j c.index-answers-j.result None (omega arith)) i)
          (c.loop-j.invariant.rest j (omega arith) i)))
          c.loop-j.invariant.done;
      rest = λ k above. get_or-set_other c.loop-j.counts j k c.counted_once.result 0
          (λ e. omega (arith, e, above)) ∙ c.loop-j.invariant.rest k (omega (arith, above));
    }

pub returns : goal.returns
returns c = counted-each c.args.work.now.rest c.args.points.now c.args.answers.now c.args.counts.now
    c.loop-j.counts (length c.args.points.now) (omega arith) c.requires.answers c.requires.counts
    (omega arith) (λ k below. c.loop-j.invariant.done k (omega (arith, below)))
