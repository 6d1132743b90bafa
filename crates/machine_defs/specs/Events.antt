-- Events, and what comes of them.
--
--   Event              == a line of a schedule, one step of a job, or a later call of the program
--   put_event profile name bytes
--                      == the begin of a put, with a profile of its own where one is named
--   IsSpelled event    == its numbers fit their types, its bytes are bytes and its symbol is a symbol
--   Outcome            == what comes of an event
--
-- A stop within a call of a device is that call failing, and then a Stop. A provider that gives other
-- symbols of a held block in one answer is one that is altered before the call and altered again after it.
use Rattle.std.specs.Prelude.{ℕ, ◌<◌, ◌^◌, List, Option, None, Some, IsTrue}
use Rattle.std.specs.List.{list_all}
use Rattle.record_defs.specs.Records.{Setup, is_byte, is_master}
use Rattle.record_defs.specs.Table.{File}
use Rattle.machine_defs.specs.Jobs.{Kind, PutJob, GetJob, DropJob, AuditJob, RepairJob, UpgradeJob}
use Rattle.machine_defs.specs.Refusals.{Refusal}
use Rattle.machine_defs.specs.Answers.{Answer}

-- An event. BeginAt is the begin of a put whose file has a profile of its own. Continue is a later call of
-- the program: vault and jobs are given up, and jobs are numbered from 1 again.
pub data Event : Type 0 where
  Init : (setup : Setup) → Event
  Begin : (kind : Kind) → Event
  BeginAt : (profile : ℕ) (name bytes : List ℕ) → Event
  BeginScrub : Event
  BeginPack : Event
  Step : (job : ℕ) → Event
  Alter : (provider object stripe place symbol : ℕ) → Event
  Lose : (provider object stripe : ℕ) → Event
  Stop : (picks : List ℕ) → Event
  Reopen : Event
  Names : Event
  Continue : Event

-- the begin of a put, of a file with a profile of its own where one is named
abbrev pub put_event : Option ℕ → List ℕ → List ℕ → Event
put_event None name bytes = Begin (PutJob name bytes)
put_event (Some profile) name bytes = BeginAt profile name bytes

-- a list of bytes
abbrev pub AreBytes : List ℕ → Type 0
AreBytes bytes = IsTrue (list_all is_byte bytes)

-- the words of a begin are bytes
abbrev pub IsSpelledKind : Kind → Type 0
IsSpelledKind (PutJob name bytes) = AreBytes name × AreBytes bytes
IsSpelledKind (GetJob name) = AreBytes name
IsSpelledKind (DropJob name) = AreBytes name
IsSpelledKind AuditJob = Unit {0}
IsSpelledKind RepairJob = Unit {0}
IsSpelledKind UpgradeJob = Unit {0}

-- the numbers of an event fit their types
abbrev pub IsSpelled : Event → Type 0
IsSpelled (Init s) =
    (s.n < 256) × (s.l < 256) × (s.b < 256) × (s.profile < 256) × (s.rounds < 256) × (s.picks < 256)
    × (s.tolerance < 2 ^ 16)
    × IsTrue (is_master s.master)
IsSpelled (Begin kind) = IsSpelledKind kind
IsSpelled (BeginAt profile name bytes) = (profile < 256) × IsSpelledKind (PutJob name bytes)
IsSpelled BeginScrub = Unit {0}
IsSpelled BeginPack = Unit {0}
IsSpelled (Step job) = job < 2 ^ 32
IsSpelled (Alter provider object stripe place symbol) =
    (provider < 2 ^ 32) × (object < 2 ^ 64) × (stripe < 2 ^ 32) × (place < 2 ^ 32) × (symbol < 2 ^ 128)
IsSpelled (Lose provider object stripe) = (provider < 2 ^ 32) × (object < 2 ^ 64) × (stripe < 2 ^ 32)
IsSpelled (Stop picks) = AreBytes picks
IsSpelled Reopen = Unit {0}
IsSpelled Names = Unit {0}
IsSpelled Continue = Unit {0}

-- what comes of an event
pub data Outcome : Type 0 where
  Ready : Outcome
  Refused : (refusal : Refusal) → Outcome
  Opened : Outcome
  Begun : (job : ℕ) → Outcome
  More : Outcome
  Waiting : (holder : ℕ) → Outcome
  Ended : (answer : Answer) → Outcome
  Replaced : Outcome
  NothingHeld : Outcome
  Stopped : Outcome
  Listed : (files : List File) → Outcome
  Closed : Outcome
  Continued : Outcome
