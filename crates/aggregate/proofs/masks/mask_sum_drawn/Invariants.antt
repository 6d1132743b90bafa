use Rattle.column_defs.specs.Keys.{mask_of}
use Rattle.challenge.specs.Asked.{asked}
use Rattle.aggregate.proofs.Horner.{Splits}
use Rattle.aggregate.proofs.masks.mask_sum_drawn.Given as goal

-- the sum over the picks from here on
abbrev pub invariant-loop-k : goal.invariant-loop-k
invariant-loop-k l = Splits (asked l.drawn.challenge) (mask_of l.key) l.k l.sum
