use Rattle.hail_top.proofs.Words.{inr, refl, values_line}
use Rattle.hail_top.proofs.AnswerTexts.{front-none}
use Rattle.hail_top.proofs.row.write_values.Goals as goal

pub returns-in-Ok-clause-writes : goal.returns-in-Ok-clause-writes
returns-in-Ok-clause-writes g c = rw (c.as_slice.ensures, c.in-Ok.ensures) at c.write_text.ensures.writes

pub returns-in-Err-clause-writes : goal.returns-in-Err-clause-writes
returns-in-Err-clause-writes g c =
    let told = g.K.Sink.written c.args.sink.now in
    inr (inr (refl, front-none told told (values_line c.args.values.now) refl))
