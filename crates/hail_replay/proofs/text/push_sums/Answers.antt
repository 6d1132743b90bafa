use Rattle.std.proofs.Common.{◌∙◌}
use Rattle.hail_replay.proofs.Numbers.{numbered_more}
use Rattle.hail_replay.proofs.text.push_sums.Goals as goal

pub loop-place-preserved : goal.loop-place-preserved
loop-place-preserved c = c.in_ok-push_number.ensures
    ∙ numbered_more c.args.sums.now c.args.text.now.items c.loop-place.text.items c.loop-place.place
    c.loop-place-test.true c.loop-place.invariant
