use Rattle.std.proofs.Common.{◌∙◌}
use Rattle.command_lines.proofs.CountSteps.{counted_more}
use Rattle.command_lines.proofs.audit.push_counts.Goals as goal

pub loop-place-preserved : goal.loop-place-preserved
loop-place-preserved c = c.in_ok-push_count.ensures
    ∙ counted_more c.args.tolerance c.args.counts.now c.args.text.now.items c.loop-place.text.items
    c.loop-place.place 0 c.loop-place-test.true c.loop-place.invariant
