use Rattle.std.proofs.Common.{◌∙◌, arith}
use Rattle.column_codec.proofs.Windows.{masks_more}
use Rattle.column_codec.proofs.masks.MaskWindow.fill.Goals as goal

pub loop-i-preserved : goal.loop-i-preserved
loop-i-preserved c =
    record {
      key = c.mask.ensures.key ∙ c.loop-i.invariant.key;
      filled = masks_more c.loop-i.out c.args.self.now.key c.loop-i.self.key _ c.loop-i.i _ (omega arith)
          c.loop-i.invariant.filled c.loop-i.invariant.key c.mask.ensures.mask;
    }
