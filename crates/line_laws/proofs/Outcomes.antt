-- The lines of outcomes, read back.
use Rattle.line_laws.proofs.Words.{◌≡◌, drop, refl, sym, ap, Answer, Put, Outcome, Ready, Refused, Opened, Begun, More, Waiting, Ended, Replaced, NothingHeld, Stopped, Listed, Closed, Continued, line, answer_text, lines_of, IsToldByLine}
use Rattle.line_laws.proofs.Digits.{number-tells}
use Rattle.line_laws.proofs.Marks.{differ}
use Rattle.line_laws.proofs.Refusals.{refusals-tell}
use Rattle.line_laws.proofs.Answers.{answers-tell}

-- no job ended
abbrev IsNoEnd : Outcome → Type 0
IsNoEnd (Ended how) = ⊥
IsNoEnd outcome = Unit {0}

-- the line of an answer is that of no other outcome
no-answer : (a : Answer) (s : Outcome) → IsNoEnd s → line (answer_text a) ≡ lines_of s → ⊥
no-answer Put Ready other same = differ 0 2 3 (line (answer_text Put)) (lines_of Ready) refl same
no-answer a (Ended how) other same = other
no-answer a s other same = differ 0 2 3 (line (answer_text a)) (lines_of s) refl same

-- the line of an outcome tells it
pub lines-tell : (r s : Outcome) → IsToldByLine s → lines_of r ≡ lines_of s → r ≡ s
lines-tell Ready Ready told same = refl
lines-tell (Refused a) (Refused b) told same = ap Refused (refusals-tell a b told (ap (drop 8) same))
lines-tell Opened Opened told same = refl
lines-tell (Begun m) (Begun n) told same = ap Begun (number-tells m n told (ap (drop 4) same))
lines-tell More More told same = refl
lines-tell (Waiting m) (Waiting n) told same = ap Waiting (number-tells m n told (ap (drop 8) same))
lines-tell (Ended a) (Ended b) told same = ap Ended (answers-tell a b told same)
lines-tell Replaced Replaced told same = refl
lines-tell NothingHeld NothingHeld told same = refl
lines-tell Stopped Stopped told same = refl
lines-tell r (Listed files) told same = absurd told
lines-tell Closed Closed told same = refl
lines-tell r Continued told same = absurd told
lines-tell (Ended a) s told same = absurd (no-answer a s tt same)
lines-tell r (Ended b) told same = absurd (no-answer b r tt (sym same))
lines-tell r s told same = absurd (differ 0 2 3 (lines_of r) (lines_of s) refl same)
