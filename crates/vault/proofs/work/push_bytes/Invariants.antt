use Rattle.std.proofs.Common.{◌≡◌, ◌+◌, ◌-◌, ◌≤◌, ◌++◌, take, length, vec_len, vec_capacity}
use Rattle.vault.proofs.work.push_bytes.Given as goal

abbrev pub invariant-loop-byte : goal.invariant-loop-byte
invariant-loop-byte l = record {
  so_far : l.bytes.items ≡ l.initial.bytes.items ++ take l.byte-index l.more;
  room : vec_len l.bytes + (length l.more - l.byte-index) ≤ vec_capacity l.bytes;
  grown : vec_capacity l.initial.bytes ≤ vec_capacity l.bytes;
}
