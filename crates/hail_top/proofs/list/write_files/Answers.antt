use Rattle.hail_top.proofs.Words.{inr, refl, files_of, list_lines}
use Rattle.hail_top.proofs.AnswerTexts.{front-none}
use Rattle.hail_top.proofs.list.write_files.Goals as goal

pub returns-in-Ok-clause-written : goal.returns-in-Ok-clause-written
returns-in-Ok-clause-written g c = λ records folds. rw (
  c.as_slice.ensures,
  c.in-Ok.ensures.records records (rw c.table.ensures folds),
) at c.write_text.ensures.writes

pub returns-in-Err-clause-written : goal.returns-in-Err-clause-written
returns-in-Err-clause-written g c = λ records folds.
    let told = g.K.Sink.written c.args.sink.now in
    inr (inr (refl, front-none told told (list_lines (files_of records)) refl))
