use Rattle.std.proofs.Common.{◌≡◌, ◌≢◌, ◌<◌, ◌+◌, ◌*◌, ◌%◌, ℕ, get_or}
use Rattle.code_defs.specs.Polynomials.{value}
use Rattle.column_codec.proofs.opening.put_row.Given as goal

-- the blocks before this one have their value, and the other places are as they were
abbrev pub invariant-loop-j : goal.invariant-loop-j
invariant-loop-j l = record {
  here : (i : ℕ) → i < l.j → get_or l.out (i * l.keep + l.place) 0 ≡ value l.work.rest i;
  others : (i : ℕ) → i % l.keep ≢ l.place → get_or l.out i 0 ≡ get_or l.initial.out i 0;
}
