use Rattle.std.proofs.Common.{◌≡◌, ◌≤◌, ◌<◌, ℕ, get_or}
use Rattle.hail_field.specs.Nim.{nim_add, nim_mul}
use Rattle.column_codec.proofs.row_values.add_differences_by.Given as goal

-- the places before this one are summed, and the others as they were
abbrev pub invariant-loop-i : goal.invariant-loop-i
invariant-loop-i l = record {
  done : (k : ℕ) → k < l.i →
      get_or l.out k 0 ≡ nim_add (get_or l.initial.out k 0)
      (nim_mul l.table (nim_add (get_or l.from k 0) (get_or l.first k 0)));
  rest : (k : ℕ) → l.i ≤ k → get_or l.out k 0 ≡ get_or l.initial.out k 0;
}
