use Rattle.column_defs.proofs.Words.{◌≢◌, ◌==◌, if◌then◌else◌, arith, stream_symbol, alpha}
use Rattle.std.specs.Prelude.{◌≡◌, ℕ}
use Rattle.column_defs.proofs.laws.alpha_is_not_zero.Goals as goal

-- one in place of zero
of_zero : (x : ℕ) → x ≡ 0 → (if x == 0 then 1 else x) ≡ 1
of_zero x e = grind (arith, e)

is_some : (x : ℕ) → (if x == 0 then 1 else x) ≢ 0
is_some x e = grind (arith, e)

pub returns-clause-of_zero_words : goal.returns-clause-of_zero_words
unfolding alpha
returns-clause-of_zero_words c seed e = of_zero (stream_symbol seed 0) e

pub returns-clause-never : goal.returns-clause-never
unfolding alpha
returns-clause-never c seed = is_some (stream_symbol seed 0)
