-- The machine: what each event may do.
--
--   Lists old is_open outcome new                == a list of the files in effect, in byte order of their
--                                          names
--   Happens limit moment old event outcome new   == from this state, after so many events, an event may
--                                          have this outcome and leave this state; the limit is that of
--                                          running jobs
use Rattle.std.specs.Prelude.{◌≡◌, ℕ, Bool, true, false, Some}
use Rattle.record_defs.specs.Table.{files_of}
use Rattle.machine_defs.specs.Events.{Event, Init, Begin, BeginAt, BeginScrub, BeginPack, Step, Alter, Lose, Stop, Reopen, Names, Continue, Outcome, Listed, Closed}
use Rattle.machine_defs.specs.States.{State}
use Rattle.machine_defs.specs.Jobs.{PutJob}
use Rattle.machine_defs.specs.Begins.{Begins, BeginsAt}
use Rattle.machine_defs.specs.Alone.{BeginsScrub, BeginsPack}
use Rattle.machine_defs.specs.Steps.{Steps}
use Rattle.machine_defs.specs.Openings.{Stops, Reopens, Inits, Continues}
use Rattle.machine_defs.specs.Replacements.{Alters, Loses}

-- the files in effect are listed, by whether a vault is open
abbrev pub Lists : State → Bool → Outcome → State → Type 0
Lists old true (Listed files) new = (files ≡ files_of old.records) × (new ≡ old)
Lists old false Closed new = new ≡ old
Lists old is_open outcome new = ⊥

-- what an event may come to
abbrev pub Happens : ℕ → ℕ → State → Event → Outcome → State → Type 0
Happens limit moment old (Init setup) outcome new = Inits old setup old.is_open outcome new
Happens limit moment old (Begin kind) outcome new = Begins limit moment old kind outcome new
Happens limit moment old (BeginAt profile name bytes) outcome new =
    BeginsAt limit moment old (PutJob name bytes) (Some profile) outcome new
Happens limit moment old BeginScrub outcome new = BeginsScrub moment old outcome new
Happens limit moment old BeginPack outcome new = BeginsPack old outcome new
Happens limit moment old (Step job) outcome new = Steps old job old.is_open outcome new
Happens limit moment old (Alter j object stripe place symbol) outcome new =
    Alters old j object stripe place symbol outcome new
Happens limit moment old (Lose j object stripe) outcome new = Loses old j object stripe outcome new
Happens limit moment old (Stop picks) outcome new = Stops old outcome new
Happens limit moment old Reopen outcome new = Reopens old outcome new
Happens limit moment old Names outcome new = Lists old old.is_open outcome new
Happens limit moment old Continue outcome new = Continues old outcome new
