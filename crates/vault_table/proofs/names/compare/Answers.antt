use Rattle.std.proofs.Common.{◌≡◌, ◌∙◌, sym, arith, length}
use Rattle.vault_table.proofs.Orders.{order-shorter, order-longer}
use Rattle.vault_table.proofs.names.compare.Goals as goal

pub returns-then-a-b : goal.returns-then-a-b
returns-then-a-b c =
    let ended : c.loop-i.i ≡ length c.args.a.now = omega
    (arith, c.min-i-end.ensures, c.loop-i-test.false, c.loop-i.auto.i-end, c.if-a-b.true) in
    sym (c.loop-i.invariant
    ∙ order-shorter c.args.a.now c.args.b.now c.loop-i.i ended (omega (arith, ended, c.if-a-b.true)))

pub returns-then-a-b-2 : goal.returns-then-a-b-2
returns-then-a-b-2 c =
    let ended : c.loop-i.i ≡ length c.args.b.now = omega
    (arith, c.min-i-end.ensures, c.loop-i-test.false, c.loop-i.auto.i-end, c.if-a-b-2.true) in
    sym (c.loop-i.invariant
    ∙ order-longer c.args.a.now c.args.b.now c.loop-i.i ended (omega (arith, ended, c.if-a-b-2.true)))
