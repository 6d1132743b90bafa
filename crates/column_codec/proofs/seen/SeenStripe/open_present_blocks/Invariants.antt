use Rattle.column_codec.proofs.Words.{get_or, OpensTo, shaped_object, opened_at, present_blocks}
use Rattle.std.proofs.Common.{◌≡◌, ◌<◌, ℕ, [], None, length}
use Rattle.column_codec.proofs.seen.SeenStripe.open_present_blocks.Given as goal

-- the blocks before this one are opened, and all have their size
abbrev pub invariant-loop-j : goal.invariant-loop-j
invariant-loop-j l = record {
  each : (k : ℕ) → k < l.j →
      OpensTo (shaped_object l.self.coder.keys.now.master.0 l.self.coder.keys.now.file) k l.self.coder.stripe
      (get_or (present_blocks l.self.coder.keys.now.file.profile.size l.self.present.now l.self.symbols.now) k None) (opened_at l.marks l.out k);
  sizes : (k : ℕ) → k < length l.out → length (get_or l.out k []) ≡ l.self.coder.keys.now.file.profile.size;
  many : length l.marks ≡ 16;
  room : l.work.size ≡ l.initial.work.size;
}
