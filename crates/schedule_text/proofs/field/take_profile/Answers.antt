use Rattle.schedule_text.proofs.Words.{◌<◌, length, arith, nat_tests, words}
use Rattle.schedule_text.proofs.Pieces.{words-left}
use Rattle.schedule_text.proofs.Fields.{profile-reads, profile-fails}
use Rattle.schedule_text.proofs.field.take_profile.Goals as goal

pub returns-in_err-number-clause-read : goal.returns-in_err-number-clause-read
returns-in_err-number-clause-read c =
    let left = c.without_spaces.result.now in
    let some : 0 < length left = grind (arith, nat_tests) in
    let word = words-left c.args.line.now left c.without_spaces.ensures.same c.without_spaces.ensures.front
    some in
    profile-fails (words c.args.line.now) word.0 word.1 word.2 (λ x. (x.0, words x.1.now))
    c.from_residual.result c.in_err-number.field-0.0 c.from_residual.ensures.1 c.in_err-number.ensures.read

pub returns-clause-read : goal.returns-clause-read
returns-clause-read c =
    let left = c.without_spaces.result.now in
    let some : 0 < length left = grind (arith, nat_tests) in
    let word = words-left c.args.line.now left c.without_spaces.ensures.same c.without_spaces.ensures.front
    some in
    profile-reads (words c.args.line.now) word.0 word.1 word.2 c.in_ok-number.number
    (words c.in_ok-number.left.now) c.in_ok-number.ensures.read
