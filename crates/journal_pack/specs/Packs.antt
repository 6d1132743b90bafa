-- A pack, and the records that it goes from and to. Lists of records have the newest first.
--
--   to_of p                 == where the text is written: where the other area begins
--   text_of p               == what is written there: records behind open gates, and a closed gate
--   moves_of p              == how many of its four moves are made; 5 where one of them failed
--   WritesText area qs p    == the pack writes the text of these records into this area
--   Packs area rs qs p told == the pack goes from records in an area to others in the other, and the disk is
--                              as after its moves so far
--   TurnsPack p result q    == how a turn of a pack ended, and what it is then
--   PacksDisk p result old new == what the disk holds behind a turn, by how it ended
--   KeepsJournal area rs qs p result q told == what the disk has, behind a turn, of the records that a pack
--                              goes from, and of those that it goes to
use Rattle.std.specs.Prelude.{◌≡◌, ◌<◌, ℕ, Bool, Result, IsTrue, IfSome, OnOk, OnErr, IsErrOf, List, [], ◌∷◌, ◌++◌, length, Option}
use Rattle.std.specs.List.{list_all}
use Rattle.stream_model.specs.declared.fault.WriteFault.{WriteFault}
use Rattle.stream_model.specs.declared.fault.WriteFault.TheVariants as write_fault
use Rattle.device_defs.specs.Cells.{Cells}
use Rattle.record_defs.specs.Records.{Record, is_in_grammar}
use Rattle.record_defs.specs.Areas.{Area, other_area, base_of, entries}
use Rattle.journal_pack.specs.declared.pack.Pack.{Pack}
use Rattle.journal_core.specs.FourMoves.{moved_on, MayBeTorn}
use Rattle.journal_core.specs.Texts.{StandsFirm, IsApart, AllStandIn, MayStandIn}
use Rattle.journal_core.specs.Turns.{CountsMove, LeavesDisk}
use Rattle.journal_pack.specs.Moves.{switch_to, IsAfterPack, IsPackGivenUp}

-- where the text is written
abbrev pub to_of : Pack → ℕ
to_of p = p.to

-- what is written there
abbrev pub text_of : Pack → List ℕ
text_of p = p.text.items

-- how many moves are made
abbrev pub moves_of : Pack → ℕ
moves_of p = p.moves

-- a pack writes the text of records into an area
pub record WritesText (area : Area) (qs : List Record) (p : Pack) : Type 0 where
  pub to : to_of p ≡ base_of area
  pub text : text_of p ≡ entries qs ++ 0 ∷ []

-- a pack goes from records in an area to others in the other area
pub record Packs (area : Area) (rs qs : List Record) (p : Pack) (told : Option Cells) : Type 0 where
  pub writes : WritesText (other_area area) qs p
  pub in_grammar : IsTrue (list_all is_in_grammar qs)
  pub apart : IsApart area rs
  pub disk : IfSome told (IsAfterPack (moves_of p) area rs qs)

-- how a turn of a pack ended: its moves are counted, and it goes on to write the same text to the same place
pub record TurnsPack (p : Pack) (result : Result Bool WriteFault) (q : Pack) : Type 0 where
  pub count : CountsMove (moves_of p) result (moves_of q)
  pub to : to_of q ≡ to_of p
  pub text : text_of q ≡ text_of p

-- what the disk holds behind a turn: the text is written, then the switch byte at offset 7
abbrev pub PacksDisk : Pack → Result Bool WriteFault → Option Cells → Option Cells → Type 0
PacksDisk p result old new =
    LeavesDisk (moves_of p) (moved_on (moves_of p) (to_of p) (text_of p) 7 (switch_to (to_of p)))
    (MayBeTorn (moves_of p) (to_of p) (length (text_of p)) 7) result old new

-- what the disk has of the old records and of the new ones. A turn that is done goes on, and one that failed
-- gives the pack up. Behind the first two turns a crash leaves the old ones, behind any turn the old or the new
-- ones; the fourth makes the new ones firm, and want of memory leaves the old ones firm
pub record KeepsJournal (area : Area) (rs qs : List Record) (p : Pack) (result : Result Bool WriteFault)
    (q : Pack) (told : Option Cells) : Type 0 where
  pub moved : OnOk result (Packs area rs qs q told)
  pub given_up : OnErr result (IfSome told (IsPackGivenUp (moves_of p) area rs qs))
  pub before : moves_of p < 2 → AllStandIn area rs told
  pub between : MayStandIn area rs qs told
  pub after : OnOk result (moves_of q ≡ 4 → AllStandIn (other_area area) qs told)
  pub ready : OnOk result (moves_of q ≡ 4 → IfSome told (StandsFirm (other_area area) qs))
  pub kept : IsErrOf result write_fault.Memory → IfSome told (StandsFirm area rs)
