use Rattle.hail_top.proofs.Words.{inr, refl, packed_line}
use Rattle.hail_top.proofs.AnswerTexts.{front-none}
use Rattle.hail_top.proofs.pack.write_lengths.Goals as goal

pub returns-in-Ok-clause-written : goal.returns-in-Ok-clause-written
returns-in-Ok-clause-written g c = rw (c.as_slice.ensures, c.in-Ok.ensures) at c.write_text.ensures.writes

pub returns-in-Err-clause-written : goal.returns-in-Err-clause-written
returns-in-Err-clause-written g c =
    let told = g.K.Sink.written c.args.sink.now in
    inr (inr (refl, front-none told told (packed_line c.args.before c.args.after) refl))
