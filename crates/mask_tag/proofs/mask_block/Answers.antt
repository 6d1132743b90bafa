use Rattle.std.proofs.Common.{arith}
use Rattle.mask_tag.proofs.Masks.{next_row, masks_more}
use Rattle.mask_tag.proofs.mask_block.Goals as goal

pub loop-place-preserved : goal.loop-place-preserved
loop-place-preserved c = record {
  at = next_row c.loop-place.rng _ c.args.key.now _ _ c.loop-place.invariant.at c.next_symbol.ensures.place;
  filled = masks_more c.loop-place.out c.args.key.now _ c.loop-place.place-index _ c.loop-place.rng
      (omega arith) c.loop-place.invariant.filled c.loop-place.invariant.at c.next_symbol.ensures.value;
}
