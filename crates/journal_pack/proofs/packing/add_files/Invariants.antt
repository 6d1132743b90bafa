use Rattle.journal_pack.proofs.Words.{◌≡◌, take, with_files, HasPadding, newest_first}
use Rattle.std.proofs.Common.{All}
use Rattle.journal_pack.proofs.packing.add_files.Given as goal

abbrev pub invariant-loop-place : goal.invariant-loop-place
invariant-loop-place l = record {
  records : newest_first l.records.items
      ≡ with_files (take l.place l.table.files) (newest_first l.fn.records.items);
  padded : All HasPadding l.fn.records.items → All HasPadding l.records.items;
}
