use Rattle.std.proofs.Common.{◌≡◌, ◌<◌, ℕ}
use Rattle.column_codec.proofs.Words.{shaped_object, opened_of, HasRow}
use Rattle.column_codec.proofs.opened.Opened.open_each_row.Given as goal

-- the rows before this one stand in their places
abbrev pub invariant-loop-place : goal.invariant-loop-place
invariant-loop-place l = record {
  has : (p : ℕ) → p < l.place →
      HasRow (shaped_object l.self.keys.now.master.0 l.self.keys.now.file)
      (opened_of l.self.marks.now l.self.blocks.now l.self.keys.now.file.shape.n) p l.rows;
  room : l.work.size ≡ l.initial.work.size;
}
