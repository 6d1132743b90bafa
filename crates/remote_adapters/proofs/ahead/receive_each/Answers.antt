use Rattle.std.proofs.Common.{◌+◌, ◌≤◌, arith}
use Rattle.remote_adapters.proofs.Hearing.{hears_more}
use Rattle.remote_adapters.proofs.ahead.receive_each.Goals as goal

pub loop-left-preserved : goal.loop-left-preserved
loop-left-preserved g c =
    let i = c.loop-left.invariant in
    let n = c.in_ok-left.field-0 in
    let few : n ≤ c.loop-left.left = c.in_ok-left.ensures.few in
    (i.0 + n, omega (arith, i.1, few), λ e. hears_more _ _ _ i.0 n (i.2 e) (c.in_ok-left.ensures.yes e))
