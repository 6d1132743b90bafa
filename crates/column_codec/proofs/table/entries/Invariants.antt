use Rattle.std.proofs.Common.{◌≡◌, ◌<◌, ℕ, get_or, length}
use Rattle.column_codec.specs.Tables.{product_at}
use Rattle.column_codec.proofs.table.entries.Given as goal

-- the places before this one are filled
abbrev pub invariant-loop-place : goal.invariant-loop-place
invariant-loop-place l = record {
  filled : (p : ℕ) → p < l.place → get_or l.entries p 0 ≡ product_at l.constant p;
  many : length l.entries ≡ 512;
}
