-- A call that makes the next of four moves on a disk: how it ended, and what it left.
--
--   CountsMove n result m                       == how the count of moves goes on: by one, true with the fourth
--                                                  move and before it false; to 5 where the move failed
--   LeavesDisk n after MayTear result old new   == what the disk holds afterwards, by how the call that makes
--                                                  the move after n ended
use Rattle.std.specs.Prelude.{◌≡◌, ℕ, ◌+◌, Bool, Option, Result, IsTrue, ◌↔◌, IfOk, OnOk, OnErr, IsErrOf}
use Rattle.std.specs.Option.{option_map}
use Rattle.stream_model.specs.declared.fault.WriteFault.{WriteFault}
use Rattle.stream_model.specs.declared.fault.WriteFault.TheVariants as write_fault
use Rattle.device_defs.specs.Cells.{Cells}
use Rattle.device_defs.specs.Told.{Goes}
use Rattle.journal_core.specs.Moves.{IsWrite}

-- how the count of moves goes on
pub record CountsMove (n : ℕ) (result : Result Bool WriteFault) (m : ℕ) : Type 0 where
  pub last : IfOk result (λ ended. IsTrue ended ↔ (m ≡ 4))
  pub next : OnOk result (m ≡ n + 1)
  pub failed : OnErr result (m ≡ 5)

-- what the disk holds afterwards: the move done; at a fault what a torn write may leave; as before where a
-- write found no memory, which no sync needs
pub record LeavesDisk (n : ℕ) (after : Cells → Cells) (MayTear : Cells → Cells → Type 0)
    (result : Result Bool WriteFault) (old new : Option Cells) : Type 0 where
  pub does : OnOk result (new ≡ option_map after old)
  pub torn : IsErrOf result write_fault.Failed → Goes MayTear old new
  pub memory : IsErrOf result write_fault.Memory → new ≡ old
  pub writes : IsErrOf result write_fault.Memory → IsWrite n
