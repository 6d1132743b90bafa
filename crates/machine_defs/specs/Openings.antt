-- Stops, reopenings, inits, and later calls of the program.
--
--   IsSetUp w, IsNotSetUp w         == a setup is in effect, or none is
--   MayHold old journal area        == what a disk may hold that is read again
--   Rereads old mid                 == the disk is read again, and a record in doubt is settled
--   Stops old outcome new           == what a stop may come to
--   Reopens old outcome new         == what a reopening may come to
--   LeavesDoubt old s doubt         == what may be in doubt after an init that failed
--   Inits old s is_open outcome new == what an init may come to
--   Continues old outcome new       == what a later call of the program comes to
--
-- A reopening or an init that finds no memory is no fault, whatever calls of the disk it made before: the disk's
-- count stays.
use Rattle.std.specs.Prelude.{◌≡◌, ◌⊎◌, ◌<◌, ◌≤◌, Bool, true, false, List, Option, None, Some, is_some}
use Rattle.record_defs.specs.Records.{Setup, Record, SetUp, is_setup}
use Rattle.record_defs.specs.Table.{setup_of}
use Rattle.record_defs.specs.Packed.{packed}
use Rattle.record_defs.specs.Areas.{Area, other_area}
use Rattle.machine_defs.specs.Refusals.{Memory, BadSetup, DiskFault, Already, NotSetUp, TooFewProviders}
use Rattle.machine_defs.specs.Events.{Outcome, Ready, Refused, Opened, Stopped, Continued}
use Rattle.machine_defs.specs.States.{State, Doubt, setup_in, brought, given_up, continued, DiskCall, DiskFails, Settles}

-- a setup is in effect
abbrev pub IsSetUp : State → Type 0
IsSetUp w = is_some (setup_of w.records) ≡ true

-- no setup is in effect
abbrev pub IsNotSetUp : State → Type 0
IsNotSetUp w = is_some (setup_of w.records) ≡ false

-- what a disk may hold that is read again: its journal, or the packed one in the other area where the switch
-- was under way
abbrev pub MayHold : State → List Record → Area → Type 0
MayHold old journal area = ((journal ≡ old.journal) × (area ≡ old.area))
    ⊎ ((old.is_switching ≡ true) × (journal ≡ packed old.journal) × (area ≡ other_area old.area))

-- the jobs are given up, and the disk that is read again holds this
abbrev pub reread : State → List Record → Area → State
reread old journal area = record (given_up old) { journal = journal; area = area; is_switching = false }

-- a disk is read again, with the jobs given up, and a record in doubt is settled
abbrev pub Rereads : State → State → Type 0
Rereads old mid =
    (journal : List Record) × (area : Area) × MayHold old journal area
    × Settles (reread old journal area) mid

-- a stop gives up the vault with its jobs, and settles a record in doubt
abbrev pub Stops : State → Outcome → State → Type 0
Stops old Stopped new = Rereads old new
Stops old outcome new = ⊥

-- a reopening gives up the vault with its jobs, and settles a record in doubt unless it cannot read the disk
abbrev pub Reopens : State → Outcome → State → Type 0
Reopens old Opened new =
    (mid : State) × Rereads old mid × IsSetUp mid × ((setup_in mid).n ≤ mid.handed)
    × DiskCall old (record mid { is_open = true }) new
Reopens old (Refused NotSetUp) new = (mid : State) × Rereads old mid × IsNotSetUp mid × DiskCall old mid new
Reopens old (Refused TooFewProviders) new =
    (mid : State) × Rereads old mid × IsSetUp mid × (mid.handed < (setup_in mid).n) × DiskCall old mid new
Reopens old (Refused DiskFault) new = DiskFails old (given_up old) new
Reopens old (Refused Memory) new = new ≡ given_up old
Reopens old outcome new = ⊥

-- what is in doubt after an init that failed: what was before, or its own setup where none is in effect
abbrev pub LeavesDoubt : State → Setup → Option Doubt → Type 0
LeavesDoubt old s doubt =
    (doubt ≡ old.doubt) ⊎ (IsNotSetUp old × (doubt ≡ Some (record { entry = SetUp s; maker = None })))

-- an init with a valid setup while no vault is open
abbrev pub InitsClosed : State → Setup → Outcome → State → Type 0
InitsClosed old s (Refused DiskFault) new =
    (doubt : Option Doubt) × LeavesDoubt old s doubt × DiskFails old (record old { doubt = doubt }) new
InitsClosed old s (Refused Memory) new =
    (doubt : Option Doubt) × LeavesDoubt old s doubt × (new ≡ record old { doubt = doubt })
InitsClosed old s (Refused Already) new = (mid : State) × Settles old mid × IsSetUp mid × DiskCall old mid new
InitsClosed old s Ready new =
    (mid : State) × Settles old mid × IsNotSetUp mid × DiskCall old (brought mid (SetUp s)) new
InitsClosed old s outcome new = ⊥

-- an init while no vault is open, by whether its setup is valid
abbrev pub InitsBy : State → Setup → Bool → Outcome → State → Type 0
InitsBy old s false (Refused BadSetup) new = new ≡ old
InitsBy old s false outcome new = ⊥
InitsBy old s true outcome new = InitsClosed old s outcome new

-- an init, by whether a vault is open
abbrev pub Inits : State → Setup → Bool → Outcome → State → Type 0
Inits old s true (Refused Already) new = new ≡ old
Inits old s true outcome new = ⊥
Inits old s false outcome new = InitsBy old s (is_setup s) outcome new

-- a later call of the program gives up the vault with its jobs, and numbers jobs from 1; what is in doubt
-- stays so
abbrev pub Continues : State → Outcome → State → Type 0
Continues old Continued new = new ≡ continued old
Continues old outcome new = ⊥
