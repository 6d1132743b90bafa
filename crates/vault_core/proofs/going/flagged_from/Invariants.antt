use Rattle.vault_core.proofs.Words.{◌≡◌, ℕ, rewrites_from}
use Rattle.vault_core.proofs.going.flagged_from.Given as goal

abbrev pub invariant-loop-j : goal.invariant-loop-j
invariant-loop-j l = (object turn : ℕ) → rewrites_from l.from l.providers l.flagged object turn ≡
    rewrites_from l.j l.providers l.flagged object turn
