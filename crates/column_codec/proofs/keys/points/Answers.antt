use Rattle.std.proofs.Common.{ℕ, ◌∙◌, arith}
use Rattle.column_defs.specs.Keys.{point_of}
use Rattle.column_codec.proofs.Places.{each_more}
use Rattle.column_codec.proofs.keys.points.Goals as goal

pub loop-j-preserved : goal.loop-j-preserved
loop-j-preserved c =
    let file = c.args.file.now in
    let master = c.args.master.now.0 in
    each_more c.loop-j.points (λ (j : ℕ). point_of file.shape.l master file.id j) c.loop-j.j
    c.from-in-loop-j-2.result c.point.result 0
    c.loop-j.invariant c.from-in-loop-j-2.ensures (omega arith)
    (c.point.ensures ∙ (λ i. point_of (c.from.ensures i) master file.id (c.from-in-loop-j.ensures i)))
