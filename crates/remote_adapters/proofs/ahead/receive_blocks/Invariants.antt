use Rattle.remote_adapters.specs.BlocksAhead.{due_of}
use Rattle.remote_adapters.proofs.ahead.receive_blocks.Given as goal

abbrev pub decreases-loop-link : goal.decreases-loop-link
decreases-loop-link g l = due_of l.blocks
