use Rattle.column_codec.proofs.Words.{get_or, shaped_object, AreOpened, present_blocks}
use Rattle.std.proofs.Common.{◌≡◌, ◌≤◌, ◌<◌, ℕ, [], length}
use Rattle.column_codec.proofs.seen.SeenStripe.mark_clean.Given as goal

-- what is marked is opened, and all blocks have their size
abbrev pub invariant-loop-j : goal.invariant-loop-j
invariant-loop-j l = record {
  opened : AreOpened (shaped_object l.self.coder.keys.now.master.0 l.self.coder.keys.now.file) l.self.coder.stripe
      (present_blocks l.self.coder.keys.now.file.profile.size l.self.present.now l.self.symbols.now) l.marks l.out;
  sizes : (k : ℕ) → k < length l.out → length (get_or l.out k []) ≡ l.self.coder.keys.now.file.profile.size;
  few : l.count ≤ l.j;
}
