-- What contracts see of a file as a disk.
--
--   DiskCounts         == how many calls failed, and how many there were, but for stops
--   not_called         == before the first call
--   with_call counts   == there was one more call
--   with_fault counts  == one more call failed
use Rattle.std.specs.Prelude.{ℕ}
use Rattle.device_defs.specs.Faults.{one_more}

-- how many calls failed, and how many there were, but for stops
pub record DiskCounts : Type 0 where
  pub faults : ℕ
  pub calls : ℕ

-- before the first call
abbrev pub not_called : DiskCounts
not_called = record { faults = 0; calls = 0 }

-- there was one more call
abbrev pub with_call : DiskCounts → DiskCounts
with_call counts = record counts { calls = one_more counts.calls }

-- one more call failed
abbrev pub with_fault : DiskCounts → DiskCounts
with_fault counts = record counts { faults = one_more counts.faults }
