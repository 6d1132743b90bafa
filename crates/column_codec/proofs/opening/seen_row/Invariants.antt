use Rattle.std.proofs.Common.{◌≡◌, ℕ, take, map}
use Rattle.column_codec.proofs.Words.{upto, symbol_in, opened_at}
use Rattle.column_codec.proofs.opening.seen_row.Given as goal

-- the providers before this one are filled in
abbrev pub invariant-loop-j : goal.invariant-loop-j
invariant-loop-j l = take l.j l.out ≡ map (λ (j : ℕ). symbol_in l.place (opened_at l.marks l.blocks j))
    (upto l.j)
