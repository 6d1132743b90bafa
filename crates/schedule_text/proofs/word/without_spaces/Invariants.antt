use Rattle.schedule_text.proofs.Words.{◌≡◌, length, words}
use Rattle.schedule_text.proofs.word.without_spaces.Given as goal

abbrev pub invariant-loop-left : goal.invariant-loop-left
invariant-loop-left l = words l.left ≡ words l.line

abbrev pub decreases-loop-left : goal.decreases-loop-left
decreases-loop-left l = length l.left
