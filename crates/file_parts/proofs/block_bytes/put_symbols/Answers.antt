use Rattle.std.proofs.Common.{arith, length-take, length-drop, ◌∙◌}
use Rattle.file_parts.proofs.ByteLemmas.{written_more}
use Rattle.file_parts.proofs.block_bytes.put_symbols.Goals as goal

pub loop-k-preserved : goal.loop-k-preserved
loop-k-preserved c =
    written_more _ _ _ c.loop-k.k _ c.index-block-k.result c.loop-k-test.true c.index-block-k.is (omega arith)
    (omega (arith, simp (length-take, length-drop) at c.copy_from_slice.ensures.len))
    (c.copy_from_slice.ensures.after ∙ c.lanes.ensures) c.loop-k.invariant
