use Rattle.std.proofs.Common.{◌≡◌, All, length}
use Rattle.bench_works.proofs.put.PutWork.run.Given as goal

-- the bench is for the file, and the blocks have their sizes
abbrev pub invariant-loop-stripe : goal.invariant-loop-stripe
invariant-loop-stripe l = record {
  file : l.bench.keys.file ≡ l.self.file;
  sizes : All (λ block. length block ≡ l.self.file.profile.size) l.blocks;
}
