-- The disks in memory, as contracts see them.
use Rattle.std.specs.Prelude.{ℕ}
use Rattle.device_defs.specs.Calls.{CallCount}
use Rattle.device_defs.specs.Cells.{Cells}

-- the bytes of one that fails at listed calls, each with whether it is loose, and its calls but for stops
pub record DiskInMemory : Type 0 where
  pub cells : Cells
  pub calls : CallCount

-- the same of one that never fails: of its calls only how many were made
pub record SureInMemory : Type 0 where
  pub cells : Cells
  pub made : ℕ
