-- The master key behind the numbers of a setup, by cases.
use Rattle.record_codec.proofs.Words.{◌≡◌, ◌≤◌, ℕ, true, false, List, length, take, drop, Some, None, refl, le-ltb, Setup, SetUp, is_setup, keyed_at}

-- a setup out of its limits is no record
pub keyed_no_setup : (s : Setup) (bytes : List ℕ) → is_setup s ≡ false → None ≡ keyed_at s bytes
unfolding keyed_at
keyed_no_setup s bytes bad = rw bad refl

-- a setup within its limits and 32 bytes behind it are one record
pub keyed_found : (s : Setup) (bytes : List ℕ) → is_setup s ≡ true → 32 ≤ length bytes →
    Some (SetUp (record s { master = take 32 bytes }), drop 32 bytes) ≡ keyed_at s bytes
unfolding keyed_at
keyed_found s bytes good long = rw (good, le-ltb _ _ long) refl
