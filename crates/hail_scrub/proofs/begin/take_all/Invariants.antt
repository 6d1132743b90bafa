use Rattle.hail_scrub.proofs.Words.{◌≤◌, length, take, map, bench_kind, file_providers, AreItems}
use Rattle.hail_scrub.proofs.begin.take_all.Given as goal

abbrev pub invariant-loop-file : goal.invariant-loop-file
invariant-loop-file l = record {
  items : AreItems (file_providers l.files) l.master.0 (map bench_kind l.benches.items) (take l.file-index l.files)
      l.files l.items.items;
  few : length l.items.items ≤ l.file-index;
}
