use Rattle.hail_top.proofs.Words.{inr, refl, take, scrub_lines}
use Rattle.hail_top.proofs.AnswerTexts.{front-none}
use Rattle.hail_top.proofs.scrub.write_sums.Goals as goal

pub returns-in-Ok-clause-written : goal.returns-in-Ok-clause-written
returns-in-Ok-clause-written g c = rw (c.as_slice.ensures, c.in-Ok.ensures) at c.write_text.ensures.writes

pub returns-in-Err-clause-written : goal.returns-in-Err-clause-written
returns-in-Err-clause-written g c =
    let told = g.K.Sink.written c.args.sink.now in
    inr (inr (
      refl,
      front-none told told (scrub_lines c.args.stripes (take c.args.providers c.args.symbols.now)
          (take c.args.providers c.args.blocks.now)) refl,
    ))
