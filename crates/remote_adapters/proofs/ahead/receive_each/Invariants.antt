use Rattle.std.proofs.Common.{◌≡◌, ℕ, ◌+◌, false}
use Rattle.remote_adapters.specs.Yes.{HearsEach}
use Rattle.remote_adapters.proofs.ahead.receive_each.Given as goal

abbrev pub invariant-loop-left : goal.invariant-loop-left
invariant-loop-left g l = (heard : ℕ) × (heard + l.left ≡ l.due) ×
    (l.may_fail ≡ false → HearsEach heard (g.L.Link.behind l.initial.link) (g.L.Link.behind l.link))

abbrev pub decreases-loop-left : goal.decreases-loop-left
decreases-loop-left g l = l.left
