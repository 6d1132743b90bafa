-- What a pack leaves and says that ran alone, over a store that was just opened.
--
--   RunsPack w moment answer new == a pack begins in the state, after so many events, and its steps come to
--                                   this answer and leave the new state
--   PacksAlone area records answer old new
--                                == a pack ran alone over these records, in this area, and devices, as a run
--                                   of the machine
--   PackLeaves area records answer old new
--                                == what is left of the disk, by its answer: each image stands for the packed
--                                   records in the other area; after a fault it may stand for the records
--                                   before in theirs instead, and after want of memory it does
--   PackedAlone area records answer old new
--                                == the same, with the providers as they were
--   AnswersPack old new end      == how the command ends: it opens the store and packs its journal
use Rattle.std.specs.Prelude.{◌≡◌, ◌⊎◌, ℕ, ◌+◌, ◌≤◌, List, [], None, Some, is_some}
use Rattle.device_defs.specs.Faults.{Rose}
use Rattle.device_defs.specs.Images.{EachImage}
use Rattle.record_defs.specs.Records.{Record}
use Rattle.record_defs.specs.Areas.{Area, other_area, text_length, StandsActive}
use Rattle.record_defs.specs.Packed.{packed}
use Rattle.machine_defs.specs.Answers.{Answer, Packed, DiskFault, Memory}
use Rattle.machine_defs.specs.Events.{BeginPack, Begun}
use Rattle.machine_defs.specs.Machine.{Happens}
use Rattle.machine_defs.specs.Refusals.{Refusal}
use Rattle.machine_defs.specs.Stands.{StandsForState}
use Rattle.machine_defs.specs.States.{State}
use Rattle.opening_defs.specs.Opened.{AreHanded, IsJustOpened}
use Rattle.command_defs.specs.JobRuns.{GoesOnTo}
use Rattle.command_defs.specs.Jobs.{EndsByAnswer}
use Rattle.command_defs.specs.Lines.{pack_text}
use Rattle.command_defs.specs.Opens.{IsOpened, Unstarted}
use Rattle.command_defs.specs.Refusals.{pack_refusal_over, status_of}
use Rattle.command_defs.specs.Seen.{Seen, Ending, IsRefused, IsSynced}

-- a pack begins in a state, after so many events, and goes on to its end
pub record RunsPack (w : State) (moment : ℕ) (answer : Answer) (new : State) : Type 0 where
  pub begun : State
  pub job : ℕ
  pub begins : Happens 8 moment w BeginPack (Begun job) begun
  pub goes_on : GoesOnTo begun (moment + 1) job answer [] new

-- a pack that ran alone: it is a run of the machine from any state just opened over these records and
-- devices, after any number of events, and the devices are those of its last state
pub record RanPack (records : List Record) (answer : Answer) (old new : Seen) (w : State)
    (moment : ℕ) : Type 0 where
  pub last : State
  pub runs : RunsPack w moment answer last
  pub images : StandsForState new.disk last
  pub faults_are : last.disk_faults ≡ new.disk_faults
  pub handed : AreHanded new.providers last

-- so it is from every such state and moment, with what the disk's count of faults was once it was opened; a
-- disk that told tells on
pub record PacksAlone (area : Area) (records : List Record) (answer : Answer) (old new : Seen) : Type 0 where
  pub faults : ℕ
  pub before : old.disk_faults ≤ faults
  pub tells : is_some new.disk ≡ is_some old.disk
  pub ran : (w : State) (moment : ℕ) → IsJustOpened w area records 1 faults old.providers
      → RanPack records answer old new w moment

-- what is left of the disk, by the answer
abbrev pub PackLeaves : Area → List Record → Answer → Seen → Seen → Type 0
PackLeaves area records (Packed before after) old new =
    (before ≡ text_length area records) × (after ≡ text_length (other_area area) (packed records))
    × EachImage new.disk (λ image. StandsActive image (other_area area) (packed records))
PackLeaves area records DiskFault old new =
    Rose old.disk_faults new.disk_faults
    × EachImage new.disk (λ image. StandsActive image area records
    ⊎ StandsActive image (other_area area) (packed records))
PackLeaves area records Memory old new = EachImage new.disk (λ image. StandsActive image area records)
PackLeaves area records answer old new = ⊥

-- what a pack left that ran alone over these records, without its run; a disk that told tells on
pub record PackedAlone (area : Area) (records : List Record) (answer : Answer) (old new : Seen) : Type 0 where
  pub leaves : PackLeaves area records answer old new
  pub tells : is_some new.disk ≡ is_some old.disk
  pub providers : new.providers ≡ old.providers

-- a `pack`
pub data AnswersPack (old new : Seen) (end : Ending) : Type 0 where
  unstarted : Unstarted old new end → AnswersPack old new end
  refused : (records : List Record) (why : Refusal) → (opened : IsOpened old records)
      → pack_refusal_over opened.area records ≡ Some why → IsSynced old new
      → IsRefused (status_of why) 0 old new end → AnswersPack old new end
  no_memory : (records : List Record) → IsOpened old records → IsSynced old new → IsRefused 70 0 old new end
      → AnswersPack old new end
  ended : (records : List Record) (answer : Answer) → (opened : IsOpened old records)
      → pack_refusal_over opened.area records ≡ None → end.heard ≡ []
      → PacksAlone opened.area records answer old new → PackedAlone opened.area records answer old new
      → EndsByAnswer (pack_text answer) answer old new end → AnswersPack old new end
