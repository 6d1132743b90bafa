use Rattle.command_lines.proofs.Pushed.{then_last, then_slice, told_as}
use Rattle.command_lines.proofs.CountSteps.{count_line_is}
use Rattle.command_lines.proofs.audit.push_count.Goals as goal

pub returns : goal.returns
returns c =
    let result = c.extend_from_slice.result in
    let old = c.args.text.now.items in
    let placed = c.push_counted.new.text.items in
    let counted = c.push_counted-2.new.text.items in
    let new = c.extend_from_slice.new.self.items in
    told_as result old new _ _
    (count_line_is c.args.tolerance c.args.place c.args.count c.from.result c.verdict.result.now
    c.from.ensures c.verdict.ensures)
    (then_last result old placed new _ _ c.in_ok-push_counted.ensures
    (then_slice result placed counted new _ c.verdict.result.now c.in_ok-push_counted-2.ensures
    c.extend_from_slice.ensures.items))
