-- What contracts see of a home's disk and of its sink, which both come behind the barrier.
--
--   HomeDiskCounts == the counts of the disk, and those of its barrier
--   HomeSinkCounts == how many writes failed, and the counts of the barrier
use Rattle.std.specs.Prelude.{ℕ}
use Rattle.hail_adapters.specs.DiskCounts.{DiskCounts}
use Rattle.remote_adapters.specs.Passes.{Passes}

-- the counts of the disk, and those of its barrier
pub record HomeDiskCounts : Type 0 where
  pub disk : DiskCounts
  pub barrier : Passes

-- how many writes failed, and the counts of the barrier
pub record HomeSinkCounts : Type 0 where
  pub faults : ℕ
  pub barrier : Passes
