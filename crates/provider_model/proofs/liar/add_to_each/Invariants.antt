use Rattle.std.proofs.Common.{◌≡◌}
use Rattle.provider_model.proofs.Lies.{front_added}
use Rattle.provider_model.proofs.liar.add_to_each.Given as goal

-- the symbol is added to those before this one
abbrev pub invariant-loop-held : goal.invariant-loop-held
invariant-loop-held l = l.block ≡ front_added l.symbol l.held-index l.initial.block
