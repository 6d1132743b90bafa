use Rattle.std.proofs.Common.{◌≡◌, ◌+◌, length}
use Rattle.remote_adapters.proofs.remote_home.home_providers.Given as goal

abbrev pub invariant-loop-number : goal.invariant-loop-number
invariant-loop-number l =
    length l.providers.items + length l.number-iterator.iter.rest.items ≡ length l.fn.folders.items
