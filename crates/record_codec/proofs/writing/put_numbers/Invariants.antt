use Rattle.record_codec.proofs.Words.{◌≡◌, ◌+◌, ◌*◌, ◌++◌, take, w32, to_le_bytes, flat_map}
use Rattle.record_codec.proofs.writing.put_numbers.Given as goal

abbrev pub invariant-loop-k : goal.invariant-loop-k
invariant-loop-k l = record {
  end : l.end ≡ l.at + 4 * l.k-index;
  so_far : take l.end l.out ≡ take l.at l.initial.out ++ flat_map (to_le_bytes w32) (take l.k-index l.ks);
}
