-- A vault that stands for a state is carried by its disk.
use Rattle.vault.proofs.Words.{◌≡◌, false, List, Option, Some, None, Cells, Area, State, Flight, Desk, Devices, IsFlight, DeskStands, CarriesText, DeskCarries}
use Rattle.record_defs.specs.Records.{Record}
use Rattle.machine_defs.specs.States as states

carried_text : (f : Option Flight) (append : Option states.Append) (area : Area) (rs : List Record)
    (told : Option Cells) → IsFlight f append area rs told → CarriesText f area rs told
carried_text None None area rs told closed = closed
carried_text (Some f) (Some append) area rs told flight = (append.entry, flight.1)
carried_text _ _ area rs told never = absurd never

-- the disk carries a vault that stands for a state which is not barred
pub carried : (v : Desk) (d : Devices) (w : State) → DeskStands v d w → w.is_barred ≡ false →
    DeskCarries v d.holds
carried v d w stands unbarred = (
  w.area,
  w.journal,
  stands.core.table,
  stands.base,
  stands.core.end,
  carried_text v.flight w.append w.area w.journal d.holds (stands.flight unbarred),
)
