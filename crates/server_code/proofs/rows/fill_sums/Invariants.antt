use Rattle.server_code.proofs.Words.{◌≡◌, ◌<◌, ℕ, get_or, length, dot_of, row_at}
use Rattle.server_code.proofs.rows.fill_sums.Given as goal

abbrev pub invariant-loop-row : goal.invariant-loop-row
invariant-loop-row l =
    (k : ℕ) → k < l.row → get_or l.out k 0 ≡ dot_of (row_at (length l.kept) l.rows k) l.kept
