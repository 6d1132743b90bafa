use Rattle.std.proofs.Common.{◌≡◌, take}
use Rattle.column_defs.specs.Keys.{masks_from}
use Rattle.column_codec.proofs.masks.MaskWindow.fill.Given as goal

-- the masks of the rows before this one are filled in, under the same key
abbrev pub invariant-loop-i : goal.invariant-loop-i
invariant-loop-i l = record {
  key : l.self.key ≡ l.initial.self.key;
  filled : take l.i l.out ≡ masks_from l.initial.self.key l.first l.i;
}
