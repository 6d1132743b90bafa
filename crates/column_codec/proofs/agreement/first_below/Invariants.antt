use Rattle.std.proofs.Common.{◌≤◌, ◌<◌, ℕ, get_or}
use Rattle.column_codec.proofs.agreement.first_below.Given as goal

-- the places before this one have enough
abbrev pub invariant-loop-i : goal.invariant-loop-i
invariant-loop-i l = (k : ℕ) → k < l.i → l.need ≤ get_or l.counts k 0
