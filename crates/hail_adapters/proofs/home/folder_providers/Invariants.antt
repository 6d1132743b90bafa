use Rattle.std.proofs.Common.{◌≡◌, replicate}
use Rattle.hail_adapters.specs.FolderCounts.{fresh_counts}
use Rattle.hail_adapters.proofs.home.folder_providers.Given as goal

abbrev pub invariant-loop-k : goal.invariant-loop-k
invariant-loop-k g l = l.providers.items ≡ replicate l.k fresh_counts
