-- What holds in each row of the table of profiles.
use Rattle.std.proofs.Common.{◌≡◌, ◌≤◌, ◌+◌, ◌*◌, ℕ, zero, suc, refl, arith}
use Rattle.code_defs.specs.Profiles.{profile_of}

-- a block has as many symbols as are kept, and two more for each that can be corrected
pub size_is : (number : ℕ) → (profile_of number).size ≡ (profile_of number).keep + 2 * (profile_of number).fix
size_is zero = refl
size_is (suc zero) = refl
size_is (suc (suc zero)) = refl
size_is (suc (suc (suc zero))) = refl
size_is (suc (suc (suc (suc more)))) = refl

-- some symbols are kept
pub some_kept : (number : ℕ) → 1 ≤ (profile_of number).keep
some_kept zero = omega arith
some_kept (suc zero) = omega arith
some_kept (suc (suc zero)) = omega arith
some_kept (suc (suc (suc zero))) = omega arith
some_kept (suc (suc (suc (suc more)))) = omega arith

-- no block is longer than 128 symbols
pub size-bound : (number : ℕ) → (profile_of number).size ≤ 128
size-bound zero = omega arith
size-bound (suc zero) = omega arith
size-bound (suc (suc zero)) = omega arith
size-bound (suc (suc (suc zero))) = omega arith
size-bound (suc (suc (suc (suc more)))) = omega arith
