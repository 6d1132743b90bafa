use Rattle.std.proofs.Common.{◌≡◌}
use Rattle.remote_adapters.specs.BlocksAhead.{due_of, ahead_left}
use Rattle.remote_adapters.proofs.ahead.block_of.Given as goal

abbrev pub invariant-loop-stripe : goal.invariant-loop-stripe
invariant-loop-stripe g l = due_of l.initial.blocks ≡ 0 → due_of l.blocks ≡ 0

abbrev pub decreases-loop-stripe : goal.decreases-loop-stripe
decreases-loop-stripe g l = ahead_left l.blocks
