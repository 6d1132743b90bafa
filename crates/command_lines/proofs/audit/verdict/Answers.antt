use Rattle.command_lines.proofs.CountSteps.{flagged_above, not_flagged}
use Rattle.command_lines.proofs.audit.verdict.Goals as goal

pub returns-then-count-from : goal.returns-then-count-from
returns-then-count-from c =
    flagged_above c.args.tolerance c.args.count c.from.result c.from.ensures c.if-count-from.true

pub returns-else-count-from : goal.returns-else-count-from
returns-else-count-from c =
    not_flagged c.args.tolerance c.args.count c.from.result c.from.ensures c.if-count-from.false
