use Rattle.hail_top.proofs.Words.{List, ℕ, subst, sym, ◌∙◌, length-range_with_len, upto, OpensRow, Apart-range}
use Rattle.std.proofs.Common.{Option}
use Rattle.hail_top.proofs.RowAnswers.{answers_held, AnswersRow-same}
use Rattle.hail_top.proofs.row.answer_row.Goals as goal

-- the values that were found are the only ones
pub returns-in-Ok-Some-clause-answers : goal.returns-in-Ok-Some-clause-answers
returns-in-Ok-Some-clause-answers g c =
    let row = c.args.row.now in
    let shape = c.in-Some.shape in
    let same = c.in-Some.ensures.value in
    let whole = c.requires ∙ sym same.0 in
    let opens = subst (λ (seen : List (Option ℕ)). OpensRow shape.n shape.l shape.b seen
    c.in-Ok-Some.values.items) c.deref.ensures.value
    (rw c.in-Ok-Some.field-0-is at c.in-Ok-Some.ensures) in
    let only = c.accepted_polynomial_is_unique.ensures.values shape.n shape.l shape.b
    (upto shape.n) row.seen.items in
    AnswersRow-same row.n row.l row.b shape.n shape.l shape.b row.seen.items _ _ same
    (answers_held shape.n shape.l shape.b row.seen.items c.in-Ok-Some.values.items
    c.deref-in-Ok-Some.result.now _ _ shape.fits opens
    (λ p q. only p q shape.fits (Apart-range 0 shape.n) (length-range_with_len 0 shape.n ∙ sym whole) whole)
    c.deref-in-Ok-Some.ensures.value c.write_values.ensures.writes)
