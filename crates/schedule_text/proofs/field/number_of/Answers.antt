use Rattle.schedule_text.proofs.Words.{◌∙◌, ℕ, List, ap, sym, number_in}
use Rattle.schedule_text.proofs.Numbers.{number_in-match, number_in-none, number_word-IsUtf8}
use Rattle.schedule_text.proofs.field.number_of.Goals as goal

pub returns-in-Ok : goal.returns-in-Ok
returns-in-Ok c = number_in-match c.in-Ok.text.now c.read_number.result c.read_number.ensures
    ∙ ap (λ (text : List ℕ). number_in text) c.in-Ok.ensures.cases.0

pub returns-in-Err : goal.returns-in-Err
returns-in-Err c = sym (number_in-none c.args.word.now
    (λ number is. c.in-Err.ensures.cases.0 (number_word-IsUtf8 c.args.word.now number is)))
