use Rattle.std.proofs.Common.{◌<◌}
use Rattle.hail_adapters.proofs.folder.Folder.remove.Given as goal

abbrev pub invariant-loop-stripe : goal.invariant-loop-stripe
invariant-loop-stripe g l = l.misses < 16
