-- Counts that a device keeps. It counts its faults, and a fault is answered only where the count rose.
--
--   last_count             == the last value of a count
--   one_more n             == n + 1, and n itself where n stands at the last value
--   Rose before now        == the count rose, or stood at its last value
--   HasCause before now F  == the count did not fall, and rose where F holds: where the call was a fault
use Rattle.std.specs.Prelude.{ℕ, ◌+◌, ◌-◌, ◌^◌, ◌<◌, ◌≤◌, nat_lt, if◌then◌else◌}

-- the last value of a count that a device keeps
abbrev pub last_count : ℕ
last_count = 2 ^ 64 - 1

-- the count after one more, which stands still at its last value
abbrev pub one_more : ℕ → ℕ
one_more n = if nat_lt n last_count then n + 1 else n

-- a count rose, or stood at its last value
abbrev pub Rose : ℕ → ℕ → Type 0
Rose before now = before < last_count → before < now

-- a count does not fall in a call, and rose where the call was a fault
pub record HasCause (before now : ℕ) (fault : Type 0) : Type 0 where
  pub never_falls : before ≤ now
  pub rose : fault → Rose before now
