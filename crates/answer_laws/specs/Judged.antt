-- What bytes come to, whatever they are. Records have the newest first.
--
--   Judged bytes              == what a start makes of them: no store, a first bad place, or records that it
--                                accepts
--   JudgedByInit bytes        == what an init makes of them: free, a store already, or a first bad place
--   AnsweredFor cells old end == how a command over a store ends whose disk tells these cells and does not
--                                fail
use Rattle.std.specs.Prelude.{◌≡◌, ◌≢◌, ◌⊎◌, ℕ, ◌<◌, ◌≤◌, List, [], length}
use Rattle.device_defs.specs.Cells.{Cells}
use Rattle.record_defs.specs.Records.{Record}
use Rattle.record_defs.specs.Journal.{StandsFor}
use Rattle.record_defs.specs.Areas.{Area}
use Rattle.record_defs.specs.Reading.{HasNoSetup}
use Rattle.record_defs.specs.Acceptance.{AreAccepted}
use Rattle.opening_defs.specs.Journals.{journal_read, IsRead, IsBadStart, IsBadInit, BeginsWithSetup}
use Rattle.command_defs.specs.Opens.{IsOpened, setup_in_effect}
use Rattle.command_defs.specs.Seen.{Seen, Ending}

-- what a start makes of bytes
pub data Judged (bytes : List ℕ) : Type 0 where
  fresh : HasNoSetup bytes → Judged bytes
  broken : (at : ℕ) → 9 < length bytes → IsBadStart bytes at → Judged bytes
  set_up : (records : List Record) → records ≢ [] → AreAccepted records → 9 < length bytes
      → StandsFor bytes records → Judged bytes

-- what an init makes of bytes
pub data JudgedByInit (bytes : List ℕ) : Type 0 where
  free : (length bytes ≤ 9) ⊎ StandsFor bytes [] → JudgedByInit bytes
  already : (records : List Record) → StandsFor bytes records → BeginsWithSetup records → JudgedByInit bytes
  broken : (at : ℕ) → IsBadInit bytes at → JudgedByInit bytes

-- how a command over a store ends: by what its disk reads, or it found no memory
pub data AnsweredFor (cells : Cells) (old : Seen) (end : Ending) : Type 0 where
  no_memory : end.status ≡ 70 → AnsweredFor cells old end
  not_set_up : HasNoSetup (journal_read cells) → end.status ≡ 9 → AnsweredFor cells old end
  bad_journal : (at : ℕ) → IsBadStart (journal_read cells) at → end.status ≡ 8 → end.at ≡ at
      → AnsweredFor cells old end
  too_few_providers : (area : Area) (records : List Record) → IsRead old.disk area records
      → length old.providers < (setup_in_effect records).n → end.status ≡ 22 →
      AnsweredFor cells old end
  opened : (records : List Record) → IsOpened old records → AnsweredFor cells old end
