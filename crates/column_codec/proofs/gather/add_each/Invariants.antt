use Rattle.std.proofs.Common.{◌≡◌, ◌<◌, ◌≤◌, ℕ, get_or}
use Rattle.hail_field.specs.Nim.{nim_add}
use Rattle.column_codec.proofs.gather.add_each.Given as goal

-- the places before this one are sums, and the others as they were
abbrev pub invariant-loop-k : goal.invariant-loop-k
invariant-loop-k l = record {
  done : (i : ℕ) → i < l.k → get_or l.out i 0 ≡ nim_add (get_or l.initial.out i 0) (get_or l.other i 0);
  rest : (i : ℕ) → l.k ≤ i → get_or l.out i 0 ≡ get_or l.initial.out i 0;
}
