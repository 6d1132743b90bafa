use Rattle.std.proofs.Common.{◌≡◌, length}
use Rattle.column_codec.specs.ObjectKeys.{AreMaskKeys}
use Rattle.column_codec.proofs.keys.mask_keys.Given as goal

-- the keys of the providers so far
abbrev pub invariant-loop-j : goal.invariant-loop-j
invariant-loop-j l = record { are : AreMaskKeys l.j l.master.0 l.file.id l.keys; many : length l.keys ≡ 16 }
