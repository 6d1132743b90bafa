use Rattle.std.proofs.Common.{◌≡◌, ◌<◌, ◌≤◌, ℕ, true, is_some, unwrap_or}
use Rattle.column_defs.specs.Challenges.{held_symbol, picked_row}
use Rattle.challenge.specs.Asked.{asked}
use Rattle.aggregate.proofs.Horner.{Splits}
use Rattle.aggregate.proofs.answers.answer_drawn.Given as goal

-- the picks from here on have symbols, of which this is the sum
abbrev pub invariant-loop-k : goal.invariant-loop-k
invariant-loop-k g l = record {
  held : (j : ℕ) → l.k ≤ j → j < l.drawn.challenge.picks →
      is_some (held_symbol l.drawn.challenge.size (g.B.Blocks.held l.blocks)
      (picked_row l.drawn.challenge.seed l.drawn.challenge.rows j)) ≡ true;
  total : Splits (asked l.drawn.challenge)
      (λ row. unwrap_or (held_symbol l.drawn.challenge.size (g.B.Blocks.held l.blocks) row) 0) l.k l.sum;
}
