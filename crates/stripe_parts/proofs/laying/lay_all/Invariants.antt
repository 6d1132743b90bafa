use Rattle.std.proofs.Common.{◌≡◌, ◌*◌, length, map, take}
use Rattle.column_codec.specs.PresentBlocks.{present_blocks}
use Rattle.stripe_parts.specs.Seen.{of_size}
use Rattle.stripe_parts.proofs.laying.lay_all.Given as goal

abbrev pub invariant-loop-j : goal.invariant-loop-j
invariant-loop-j l = record {
  zeros : length l.zeros.items ≡ l.size;
  flags : length l.present.items ≡ length l.seen;
  blocks : present_blocks l.size (take l.j l.present.items) l.symbols.items
      ≡ map (of_size l.size) (take l.j l.seen);
  symbols : length l.symbols.items ≡ l.j * l.size;
}
