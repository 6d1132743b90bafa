use Rattle.server_code.proofs.Words.{◌∙◌, keep_below}
use Rattle.server_code.proofs.BehindSteps.{points_behind}
use Rattle.server_code.proofs.tables.Tables.points_behind.Goals as goal

pub returns : goal.returns
returns c =
    let p = c.args.self.now.profile in
    points_behind c.deref.result.now p.keep p.size (c.deref.ensures.value ∙ c.args.self.now.points_are)
    (keep_below p.number p.size p.keep p.size_is p.keep_is)
