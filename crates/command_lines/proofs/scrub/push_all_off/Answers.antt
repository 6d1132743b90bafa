use Rattle.std.proofs.Common.{◌∙◌}
use Rattle.command_lines.proofs.OffSteps.{off_more}
use Rattle.command_lines.proofs.scrub.push_all_off.Goals as goal

pub loop-place-preserved : goal.loop-place-preserved
loop-place-preserved c = c.in_ok-push_off.ensures
    ∙ off_more c.args.symbols.now c.args.blocks.now c.args.text.now.items c.loop-place.text.items
    c.loop-place.place 0 c.requires c.loop-place-test.true c.loop-place.invariant
