-- The sizes of blocks.
use Rattle.std.proofs.Common.{◌≡◌, ◌≤◌, ℕ, arith}
use Rattle.code_defs.specs.Profiles.{profile_of}
use Rattle.code_defs.proofs.Profiles.{size_is, size-bound}

-- no block is longer than 128 symbols, and no more are kept
pub profile_small : (number size keep : ℕ) → size ≡ (profile_of number).size →
    keep ≡ (profile_of number).keep → (size ≤ 128) × (keep ≤ 128)
profile_small number size keep e f =
    (omega (arith, e, size-bound number), omega (arith, e, f, size-bound number, size_is number))
