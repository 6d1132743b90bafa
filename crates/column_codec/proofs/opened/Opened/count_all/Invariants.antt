use Rattle.column_codec.proofs.Words.{get_or, shaped_object, agreed}
use Rattle.std.proofs.Common.{◌≡◌, ◌≤◌, ◌<◌, ℕ}
use Rattle.column_codec.proofs.opened.Opened.count_all.Given as goal

-- the providers before this one are counted
abbrev pub invariant-loop-j : goal.invariant-loop-j
invariant-loop-j l = record {
  counted : (place : ℕ) → place < l.self.keys.now.file.profile.keep →
      get_or l.counts place 0 ≡ agreed (shaped_object l.self.keys.now.master.0 l.self.keys.now.file) l.rows l.self.marks.now l.self.blocks.now
      place l.j;
  few : (place : ℕ) → get_or l.counts place 0 ≤ l.j;
}
