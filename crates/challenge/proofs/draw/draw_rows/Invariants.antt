use Rattle.std.proofs.Common.{◌≡◌, ◌<◌, ◌*◌, ℕ, get_or, length}
use Rattle.column_defs.specs.Generator.{moved_on}
use Rattle.challenge.specs.Rows.{next_rows}
use Rattle.challenge.proofs.draw.draw_rows.Given as goal

-- the generator stands at the next row, and the rows before it are drawn
abbrev pub invariant-loop-k : goal.invariant-loop-k
invariant-loop-k l = record {
  at : l.rng ≡ moved_on l.fn.rng (2 * l.k);
  drawn : (j : ℕ) → j < l.k → get_or l.drawn j 0 ≡ next_rows l.fn.rng l.rows j;
  many : length l.drawn ≡ 64;
}
