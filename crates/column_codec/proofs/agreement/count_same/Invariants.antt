use Rattle.std.proofs.Common.{◌≡◌, ◌≤◌, ◌<◌, ◌+◌, ◌==◌, ℕ, get_or, if◌then◌else◌}
use Rattle.column_codec.proofs.agreement.count_same.Given as goal

-- the places before this one are counted, and the others as they were
abbrev pub invariant-loop-i : goal.invariant-loop-i
invariant-loop-i l = record {
  done : (k : ℕ) → k < l.i →
      get_or l.counts k 0 ≡ get_or l.initial.counts k
      0 + (if get_or l.seen k 0 == get_or l.values k 0 then 1 else 0);
  rest : (k : ℕ) → l.i ≤ k → get_or l.counts k 0 ≡ get_or l.initial.counts k 0;
}
