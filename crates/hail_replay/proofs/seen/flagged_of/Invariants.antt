use Rattle.hail_replay.proofs.Words.{◌≡◌, take, flagged_from}
use Rattle.hail_replay.proofs.seen.flagged_of.Given as goal

abbrev pub invariant-loop-place : goal.invariant-loop-place
invariant-loop-place l = l.flagged.items ≡ flagged_from l.tolerance 0 (take l.place l.counts)
