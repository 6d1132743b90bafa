use Rattle.hail_replay.proofs.Words.{◌≡◌, ◌++◌, take, flat_map, then_number}
use Rattle.hail_replay.proofs.text.push_numbers.Given as goal

abbrev pub invariant-loop-place : goal.invariant-loop-place
invariant-loop-place l = l.text.items ≡ l.fn.text.items ++ flat_map then_number (take l.place l.numbers)
