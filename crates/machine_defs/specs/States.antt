-- The states of the machine.
--
--   Append                           == an append in flight: its job, its record, and how many of its four
--                                       moves are done
--   Doubt                            == a record in doubt, with the job that wrote it, if one did
--   State                            == a state
--   Found, Scrub, Pack, Alone        == what a scrub has found, a scrub, a pack, and either of them
--   setup_in, object_in, file_in     == the setup in effect, the object of a profile and a number, the file
--                                       in effect under a name
--   file_object w f                  == the object of a file in effect
--   pinned_object w f                == that of a file that a job works on
--   put_object w job id              == the object under whose number a put stores
--   object_among w files id          == the object of a number among these files
--   worked_object w job id           == the object of a number among those that a job works on
--   going_on w job                   == the state with this job in place of that of its number
--   ended w job                      == the state in which the job has ended
--   given_up w                       == the state in which all jobs are given up and the vault is closed
--   continued w                      == the state in which a later call of the program goes on
--   with_doubt w d                   == the records in effect with one in doubt added
--   brought w r                      == the state in which a record has come into effect
--   journal_end w                    == the offset past the gate that closes the journal
--   DiskCall old left new            == a disk call that leaves this state, with a count of faults that did
--                                       not fall
--   DiskFails old left new           == a disk call that failed and leaves this state, with a count of faults
--                                       that rose
--   ProviderCall old j call left new == a call of provider j that leaves this state but for that provider
--   Settles old new                  == a record in doubt is now in effect, or is not; none is in doubt
--   IsStart w                        == a state before the first event
--
-- The setup, the files in effect, the started puts, the next numbers and the audits that run or are due are
-- what the records in effect fold to. Beside these a state keeps whose bytes an object number stands for,
-- when an audit number was drawn, and which job wrote the record in doubt.
--
-- There are two lists of records. `records` is the one history: every record that came into effect, and it
-- only grows. `journal` is what the disk holds: a pack puts the records of a packed journal in its place.
-- Their tables are alike in every run, so that what a state says of files, numbers, audits and setup may be
-- read off the history.
use Rattle.std.specs.Prelude.{◌≡◌, ℕ, ◌==◌, ◌≤◌, ◌⊎◌, Bool, false, IsTrue, List, [], ◌∷◌, Option, None, Some, if◌then◌else◌}
use Rattle.column_defs.specs.Objects.{Object}
use Rattle.record_defs.specs.Records.{Setup, Record, SetUp, is_in_grammar}
use Rattle.record_defs.specs.Table.{File, setup_of, file_of}
use Rattle.record_defs.specs.Areas.{Area, A, end_in}
use Rattle.device_defs.specs.Faults.{Rose}
use Rattle.device_defs.specs.Providers.{Provider}
use Rattle.machine_defs.specs.Jobs.{Pinned, Given, Job, with_job, without_job}
use Rattle.machine_defs.specs.Actions.{Action}
use Rattle.machine_defs.specs.Setups.{setup_or_none, profiled, object_of}
use Rattle.machine_defs.specs.Given.{pinned_profile}

-- an append in flight: its job, its record, and how many of its four moves are done
pub record Append : Type 0 where
  pub job : ℕ
  pub entry : Record
  pub moves : ℕ

-- a record in doubt, with the job that wrote it, if one did
pub record Doubt : Type 0 where
  pub entry : Record
  pub maker : Option Job

-- what a scrub has found: stripes opened, and of each provider the symbols and the blocks that differed
pub record Found : Type 0 where
  pub stripes : ℕ
  pub symbols : ℕ → ℕ
  pub blocks : ℕ → ℕ

-- a scrub: the files of its begin, what it has still to do, and what its steps gave
pub record Scrub : Type 0 where
  pub number : ℕ
  pub begun : ℕ  -- how many events were before its begin
  pub files : List Pinned
  pub todo : List Action
  pub given : List Given  -- the newest first
  pub found : Found

-- a pack: how many of its four moves are made, and the length of the text at its begin
pub record Pack : Type 0 where
  pub number : ℕ
  pub moves : ℕ
  pub before : ℕ

-- what runs alone, with no job beside it
pub data Alone : Type 0 where
  Scrubbing : (scrub : Scrub) → Alone
  Packing : (pack : Pack) → Alone

-- a state
pub record State : Type 0 where
  pub records : List Record  -- every record that came into effect, the newest first
  pub journal : List Record  -- what the disk holds of them, the newest first
  pub area : Area  -- in which the disk holds it
  pub is_switching : Bool  -- the byte that names the area may name the other one, with the packed journal
  pub bytes : ℕ → List ℕ  -- of the put that drew an object number last
  pub audits : ℕ → ℕ  -- the begin of the audit that drew a number last
  pub jobs : List Job  -- that run, in the order of their begins
  pub next_job : ℕ
  pub alone : Option Alone
  pub append : Option Append
  pub doubt : Option Doubt
  pub providers : ℕ → Provider
  pub handed : ℕ  -- how many providers were handed in
  pub disk_faults : ℕ
  pub is_open : Bool  -- a vault is open
  pub is_barred : Bool  -- a disk call of its jobs failed

-- the setup in effect
unfoldable pub setup_in : State → Setup
setup_in w = setup_or_none (setup_of w.records)

-- the object of a profile and a number
abbrev pub object_in : State → ℕ → ℕ → Object
object_in w profile id = object_of (profiled (setup_in w) profile) id

-- the object of a file in effect
abbrev pub file_object : State → File → Object
file_object w f = object_in w f.profile f.id

-- the object of a file that a job works on
abbrev pub pinned_object : State → Pinned → Object
pinned_object w f = object_in w f.profile f.id

-- the object under whose number a put stores
abbrev pub put_object : State → Job → ℕ → Object
put_object w job id = object_in w job.profile id

-- the object of a number among these files
abbrev pub object_among : State → List Pinned → ℕ → Object
object_among w files id = object_in w (pinned_profile (setup_in w).profile files id) id

-- the object of a number among those that a job works on
abbrev pub worked_object : State → Job → ℕ → Object
worked_object w job id = object_among w job.pinned id

-- the file in effect under a name
abbrev pub file_in : State → List ℕ → Option File
file_in w name = file_of w.records name

-- a state with this job in place of that of its number
abbrev pub going_on : State → Job → State
going_on w job = record w { jobs = with_job w.jobs job }

-- a state in which a job has ended
abbrev pub ended : State → Job → State
ended w job = record w { jobs = without_job w.jobs job.number }

-- all jobs are given up and the vault is closed
abbrev pub given_up : State → State
given_up w = record w { jobs = []; alone = None; append = None; is_open = false; is_barred = false }

-- the state in which a later call of the program goes on
abbrev pub continued : State → State
continued w = record (given_up w) { next_job = 1 }

-- the records in effect with one in doubt added
abbrev pub with_doubt : State → Doubt → List Record
with_doubt w d = d.entry ∷ w.records

-- a record has come into effect
abbrev pub brought : State → Record → State
brought w r = record w { records = r ∷ w.records; journal = r ∷ w.journal }

-- the offset past the gate that closes the journal
abbrev pub journal_end : State → ℕ
journal_end w = end_in w.area w.journal

-- providers with another one at a place
abbrev pub with_provider : (ℕ → Provider) → ℕ → Provider → ℕ → Provider
with_provider providers j p k = if k == j then p else providers k

-- a disk call that leaves this state; the count of faults does not fall
abbrev pub DiskCall : State → State → State → Type 0
DiskCall old left new =
    (faults : ℕ) × (old.disk_faults ≤ faults) × (new ≡ record left { disk_faults = faults })

-- a disk call that fails and leaves this state
abbrev pub DiskFails : State → State → State → Type 0
DiskFails old left new =
    (faults : ℕ) × (old.disk_faults ≤ faults) × Rose old.disk_faults faults
    × (new ≡ record left { disk_faults = faults })

-- a call of one provider that leaves this state otherwise
abbrev pub ProviderCall : State → ℕ → (Provider → Provider → Type 0) → State → State → Type 0
ProviderCall old j call left new =
    (p : Provider) × call (old.providers j) p
    × (new ≡ record left { providers = with_provider old.providers j p })

-- a record in doubt is in effect or is not, and is no longer in doubt
abbrev pub Settles : State → State → Type 0
Settles old new = (new ≡ record old { doubt = None })
    ⊎ ((d : Doubt) × (old.doubt ≡ Some d) × (new ≡ record (brought old d.entry) { doubt = None }))

-- the records that a disk may stand for at a start: none, or one setup
abbrev pub AreFirst : List Record → Type 0
AreFirst records =
    (records ≡ []) ⊎ ((s : Setup) × IsTrue (is_in_grammar (SetUp s)) × (records ≡ SetUp s ∷ []))

-- a state before the first event, with what the devices hold and count, and the records that the disk
-- stands for
pub record IsStart (w : State) : Type 0 where
  pub records : AreFirst w.records
  pub journal : w.journal ≡ w.records
  pub first_area : w.area ≡ A
  pub unswitched : w.is_switching ≡ false
  pub none_alone : w.alone ≡ None
  pub jobs : w.jobs ≡ []
  pub first_job : w.next_job ≡ 1
  pub append : w.append ≡ None
  pub doubt : w.doubt ≡ None
  pub closed : w.is_open ≡ false
  pub unbarred : w.is_barred ≡ false
