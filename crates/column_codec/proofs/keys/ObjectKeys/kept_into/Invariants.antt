use Rattle.column_codec.proofs.Words.{get_or, nim_add, dot}
use Rattle.std.proofs.Common.{◌≡◌, ◌<◌, ℕ, []}
use Rattle.column_codec.proofs.WeightLemmas.{differences_at}
use Rattle.column_codec.proofs.keys.ObjectKeys.kept_into.Given as goal

-- the differences of the blocks before this one are summed
abbrev pub invariant-loop-j : goal.invariant-loop-j
invariant-loop-j l = (place : ℕ) → place < l.self.file.profile.keep →
    get_or l.kept place 0 ≡ nim_add (get_or l.symbols place 0) (dot (get_or l.self.weights l.provider [])
    (differences_at l.j l.self.file.profile.keep place l.symbols (get_or l.symbols place 0)))
