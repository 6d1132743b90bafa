-- What contracts see of a barrier.
--
--   Passes            == how often it was passed, and how often it was not
--   not_met           == before the first call
--   with_pass counts  == it was passed once more
--   with_stop counts  == it was not passed once more
--   HasFailed counts  == it was not passed once
use Rattle.std.specs.Prelude.{ℕ, ◌<◌}
use Rattle.device_defs.specs.Faults.{one_more}

-- how often a barrier was passed, and how often it was not
pub record Passes : Type 0 where
  pub passed : ℕ
  pub stopped : ℕ

-- before the first call
abbrev pub not_met : Passes
not_met = record { passed = 0; stopped = 0 }

-- it was passed once more
abbrev pub with_pass : Passes → Passes
with_pass counts = record counts { passed = one_more counts.passed }

-- it was not passed once more
abbrev pub with_stop : Passes → Passes
with_stop counts = record counts { stopped = one_more counts.stopped }

-- it was not passed once
abbrev pub HasFailed : Passes → Type 0
HasFailed counts = 0 < counts.stopped
