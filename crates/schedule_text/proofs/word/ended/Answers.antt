use Rattle.schedule_text.proofs.Words.{◌<◌, ℕ, List, length, ap, arith, nat_tests, event_command, only_command}
use Rattle.schedule_text.proofs.Pieces.{words-left}
use Rattle.schedule_text.proofs.word.ended.Goals as goal

pub returns-else-is_empty-clause-read : goal.returns-else-is_empty-clause-read
returns-else-is_empty-clause-read c =
    let left = c.without_spaces.result.now in
    let some : 0 < length left = grind (arith, nat_tests) in
    let word = words-left c.args.line.now left c.without_spaces.ensures.same c.without_spaces.ensures.front
    some in
    ap (λ (ws : List (List ℕ)). only_command (event_command c.args.event) ws) word.2
