-- What a move of an append does.
--
--   HasFailed moved           == the disk failed
--   IsTurn a old result b new == one turn of an append and of its disk
--   MakesMove a old moved new == the same, by what came of it
use Rattle.std.specs.Prelude.{Bool, true, false, Option, Result, Ok, Err}
use Rattle.stream_model.specs.declared.fault.WriteFault.{WriteFault}
use Rattle.stream_model.specs.declared.fault.WriteFault.TheVariants as write_fault
use Rattle.device_defs.specs.Cells.{Cells}
use Rattle.journal_core.specs.declared.append.Append.{Append}
use Rattle.journal_core.specs.Appends.{TurnsAppend, AppendsDisk}
use Rattle.vault.specs.declared.flight.Moved.{Moved}
use Rattle.vault.specs.declared.flight.Moved.TheVariants as moved

-- the disk failed
abbrev pub HasFailed : Moved → Type 0
HasFailed moved.Failed = Unit {0}
HasFailed m = ⊥

-- one turn of an append and of its disk
pub record IsTurn (a : Append) (old : Option Cells) (result : Result Bool WriteFault) (b : Append)
    (new : Option Cells) : Type 0 where
  pub turns : TurnsAppend a result b
  pub disk : AppendsDisk a result old new

-- a turn, by what came of it; behind the last one, and behind one that failed, the append is given away
abbrev pub MakesMove : Append → Option Cells → Moved → Option Cells → Type 0
MakesMove a old (moved.On f) new = IsTurn a old (Ok false) f.append new
MakesMove a old moved.Done new = (b : Append) × IsTurn a old (Ok true) b new
MakesMove a old moved.Failed new = (b : Append) × IsTurn a old (Err write_fault.Failed) b new
MakesMove a old moved.Memory new = (b : Append) × IsTurn a old (Err write_fault.Memory) b new
