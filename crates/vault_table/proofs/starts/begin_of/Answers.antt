use Rattle.std.proofs.Common.{◌≡◌, ◌+◌, ◌%◌, length, ap, sym, ◌∙◌, arith, slice_index_or}
use Rattle.vault_table.specs.Starts.{begins_at}
use Rattle.vault_table.proofs.KeptNames.{begins-step, begins-le, mark-at}
use Rattle.vault_table.proofs.starts.begin_of.Goals as goal

pub loop-i-init : goal.loop-i-init
loop-i-init c = mark-at c.args.sizes.now c.args.marks.now c.args.place c.requires.marks c.requires.place

pub overflow_add-at : goal.overflow_add-at
overflow_add-at c =
    let at = c.loop-i.invariant in
    let step = begins-step c.args.sizes.now c.loop-i.i
    (omega (arith, c.loop-i-test.true, c.requires.place)) in
    let below = begins-le c.args.sizes.now (c.loop-i.i + 1) (length c.args.sizes.now)
    (omega (arith, c.loop-i-test.true, c.requires.place)) in
    omega (arith, at, step, below, c.requires.fits)

pub loop-i-preserved : goal.loop-i-preserved
loop-i-preserved c =
    let step = begins-step c.args.sizes.now c.loop-i.i
    (omega (arith, c.loop-i-test.true, c.requires.place)) in
    ap (λ n. n + slice_index_or c.args.sizes.now c.loop-i.i 0 % 128) c.loop-i.invariant ∙ sym step

pub returns : goal.returns
returns c =
    let last : c.loop-i.i ≡ c.args.place = omega (arith, c.loop-i-test.false, c.loop-i.auto.i-end) in
    c.loop-i.invariant ∙ ap (begins_at c.args.sizes.now) last
