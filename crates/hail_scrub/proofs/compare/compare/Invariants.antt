use Rattle.hail_scrub.proofs.Words.{◌≡◌, ℕ, ◌<◌, ◌≤◌, length, get_or, bench_object, blocks_in, off_in}
use Rattle.hail_scrub.proofs.compare.compare.Given as goal

abbrev pub invariant-loop-j : goal.invariant-loop-j
invariant-loop-j l = record {
  long : length l.off ≡ 16;
  done : (k : ℕ) → k < l.j → get_or l.off k 0
      ≡ off_in (bench_object l.initial.bench) l.stripe (blocks_in l.blocks) l.initial.bench.rows.items k;
  few : (k : ℕ) → get_or l.off k 0 ≤ 128;
  keys : l.bench.keys ≡ l.initial.bench.keys;
  rows : l.bench.rows ≡ l.initial.bench.rows;
}
