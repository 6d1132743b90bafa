use Rattle.std.proofs.Common.{◌≡◌, ◌+◌, ◌*◌, take}
use Rattle.rand_chacha.specs.ChaCha.{of_seed}
use Rattle.column_defs.specs.Keys.{masks_from}
use Rattle.mask_tag.proofs.mask_block.Given as goal

-- the generator stands at the next row, and the rows before it are filled
abbrev pub invariant-loop-place : goal.invariant-loop-place
invariant-loop-place l = record {
  at : l.rng ≡ record (of_seed l.fn.key) { word_pos = 4 * (l.first + l.place-index) };
  filled : take l.place-index l.out ≡ masks_from l.fn.key l.first l.place-index;
}
