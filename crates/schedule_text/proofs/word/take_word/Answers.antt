use Rattle.schedule_text.proofs.Words.{ℕ, List, length, drop, sym, ◌∙◌, ap, ◌<◌, ◌-◌, arith, length-drop, take_all, nat_tests, word_at}
use Rattle.schedule_text.proofs.Pieces.{front_is, words-first, words-free, free_from}
use Rattle.schedule_text.proofs.word.take_word.Goals as goal

pub returns-in-Some-clause-read : goal.returns-in-Some-clause-read
returns-in-Some-clause-read c =
    let left = c.without_spaces-left.result.now in
    let some : 0 < length left = grind (arith, nat_tests) in
    let found = c.in-Some.ensures in
    rw (take_all (length left - c.in-Some.end) (drop c.in-Some.end left)
    (omega (arith, length-drop c.in-Some.end left)))
    (ap (λ (ws : List (List ℕ)). word_at ws) (sym c.without_spaces-left.ensures.same
    ∙ words-first left c.in-Some.end some (front_is left some c.without_spaces-left.ensures.front)
    found.0.high found.0.before found.1))

pub returns-in-None-clause-read : goal.returns-in-None-clause-read
returns-in-None-clause-read c =
    let left = c.without_spaces-left.result.now in
    let some : 0 < length left = grind (arith, nat_tests) in
    ap (λ (ws : List (List ℕ)). word_at ws) (sym c.without_spaces-left.ensures.same
    ∙ words-free left some (free_from 32 left c.in-None.ensures))
