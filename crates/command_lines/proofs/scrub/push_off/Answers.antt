use Rattle.command_lines.proofs.Pushed.{then_last, told_as}
use Rattle.command_lines.proofs.OffSteps.{off_line_is}
use Rattle.command_lines.proofs.scrub.push_off.Goals as goal

pub returns : goal.returns
returns c =
    let result = c.push_line.result in
    let old = c.args.text.now.items in
    told_as result old c.push_line.new.text.items _ _
    (off_line_is c.args.place c.args.place c.args.symbols c.args.blocks (λ i. c.args.place))
    (then_last result old _ _ _ _ c.in_ok-push_counted.ensures
    (then_last result _ _ _ _ _ c.in_ok-push_counted-2.ensures c.push_line.ensures))
