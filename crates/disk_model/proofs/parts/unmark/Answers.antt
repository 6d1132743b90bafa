use Rattle.std.proofs.Common.{◌∙◌, arith}
use Rattle.disk_model.proofs.Ranges.{unmarked}
use Rattle.disk_model.proofs.parts.unmark.Goals as goal

pub returns : goal.returns
returns c = c.mark.ensures
    ∙ unmarked c.args.loose.from c.args.loose.to c.args.marks.now c.min-start.result c.min-end.result c.requires (omega arith) (omega arith)
