-- An append, and the records that it goes behind. Lists of records have the newest first.
--
--   gate_of a                == the offset of the closed gate that the append opens
--   body_of a                == what it writes behind the gate: a record and the next closed gate
--   moves_of a               == how many of its four moves are made; 5 where one of them failed
--   Appends area rs r a told == the append brings the record r behind the records rs of an area, and the disk
--                               is as after its moves so far
--   TurnsAppend a result b   == how a turn of an append ended, and what it is then
--   AppendsDisk a result old new == what the disk holds behind a turn, by how it ended
--   KeepsRecords area rs r a result b told == what the disk has, behind a turn, of the records that an append
--                               goes behind, and of its own
use Rattle.std.specs.Prelude.{◌≡◌, ◌<◌, ℕ, ◌+◌, Bool, Result, IsTrue, IfSome, OnOk, OnErr, IsErrOf, List, [], ◌∷◌, ◌++◌, length, take, Option}
use Rattle.std.specs.List.{list_all}
use Rattle.stream_model.specs.declared.fault.WriteFault.{WriteFault}
use Rattle.stream_model.specs.declared.fault.WriteFault.TheVariants as write_fault
use Rattle.device_defs.specs.Cells.{Cells}
use Rattle.record_defs.specs.Records.{Record, is_in_grammar}
use Rattle.record_defs.specs.Spellings.{spelling}
use Rattle.record_defs.specs.Areas.{Area, base_of, entries}
use Rattle.journal_core.specs.declared.append.Append.{Append}
use Rattle.journal_core.specs.Moves.{cells_after, MayTear}
use Rattle.journal_core.specs.Texts.{StandsFirm, IsAfterMovesIn, IsGivenUpIn, AllStandIn, MayStandWith}
use Rattle.journal_core.specs.Turns.{CountsMove, LeavesDisk}

-- the offset of the gate
abbrev pub gate_of : Append → ℕ
gate_of a = a.gate

-- what is written behind the gate
abbrev pub body_of : Append → List ℕ
body_of a = take a.len a.bytes

-- how many moves are made
abbrev pub moves_of : Append → ℕ
moves_of a = a.moves

-- the append brings a record behind records whose text an area of the disk has
pub record Appends (area : Area) (rs : List Record) (r : Record) (a : Append) (told : Option Cells) :
    Type 0 where
  pub records : IsTrue (list_all is_in_grammar rs)
  pub entry : IsTrue (is_in_grammar r)
  pub gate : gate_of a ≡ base_of area + length (entries rs)
  pub body : body_of a ≡ spelling r ++ 0 ∷ []
  pub disk : IfSome told (IsAfterMovesIn (moves_of a) area rs (body_of a))

-- how a turn of an append ended: its moves are counted, and it goes on to bring the same to the same gate
pub record TurnsAppend (a : Append) (result : Result Bool WriteFault) (b : Append) : Type 0 where
  pub count : CountsMove (moves_of a) result (moves_of b)
  pub gate : gate_of b ≡ gate_of a
  pub body : body_of b ≡ body_of a

-- what the disk holds behind a turn
abbrev pub AppendsDisk : Append → Result Bool WriteFault → Option Cells → Option Cells → Type 0
AppendsDisk a result old new =
    LeavesDisk (moves_of a) (cells_after (moves_of a) (gate_of a) (body_of a))
    (MayTear (moves_of a) (gate_of a) (body_of a)) result old new

-- what the disk has of records and of the one behind them. A turn that is done goes on, and one that failed
-- gives the append up. Behind the first two turns a crash leaves these records, behind any turn these or these
-- with the new one; the fourth makes the new one firm, and want of memory leaves these firm
pub record KeepsRecords (area : Area) (rs : List Record) (r : Record) (a : Append)
    (result : Result Bool WriteFault) (b : Append) (told : Option Cells) : Type 0 where
  pub moved : OnOk result (Appends area rs r b told)
  pub given_up : OnErr result (IfSome told (IsGivenUpIn (moves_of a) area rs (body_of a)))
  pub before : moves_of a < 2 → AllStandIn area rs told
  pub between : MayStandWith area rs r told
  pub ready : OnOk result (moves_of b ≡ 4 → IfSome told (StandsFirm area (r ∷ rs)))
  pub kept : IsErrOf result write_fault.Memory → IfSome told (StandsFirm area rs)
