use Rattle.std.proofs.Common.{◌≡◌, ℕ, arith, ap, ◌∙◌, replicate}
use Rattle.hail_adapters.specs.FolderCounts.{fresh_counts}
use Rattle.hail_adapters.proofs.home.folder_providers.Goals as goal

pub returns : goal.returns
returns g c =
    let ended : c.loop-k.k ≡ 16 = omega (arith, c.loop-k-test.false, c.loop-k.auto.k-end) in
    c.loop-k.invariant ∙ ap (λ (n : ℕ). replicate n fresh_counts) ended
