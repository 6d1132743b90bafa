use Rattle.column_codec.proofs.Words.{get_or, upto, column_of_symbols, shaped_object}
use Rattle.std.proofs.Common.{◌≡◌, ◌≤◌, ◌<◌, ℕ, [], take, map, length}
use Rattle.column_codec.proofs.coder.StripeCoder.columns_into.Given as goal

-- the blocks before this one are filled, and the others have their size
abbrev pub invariant-loop-j : goal.invariant-loop-j
invariant-loop-j l = record {
  filled : take l.j l.out
      ≡ map (λ (j : ℕ). column_of_symbols (shaped_object l.self.keys.now.master.0 l.self.keys.now.file) l.symbols j l.self.stripe)
      (upto l.j);
  sizes : (k : ℕ) → l.j ≤ k → k < length l.out → length (get_or l.out k []) ≡ l.self.keys.now.file.profile.size;
}
