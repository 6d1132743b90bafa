-- How the desk of a vault and its devices stand for a state of the machine.
--
--   IsShaped v                    == the shape is that of the setup
--   IsFlight f flight area rs told
--                                 == no append is in flight, and the disk has the area's text with a closed
--                                    gate; or that of the machine is, and the disk is as after its moves so
--                                    far
--   DeskStands v d w              == the desk and the devices stand for a state in which a vault is open, and
--                                    nothing runs alone
--   PutEndsIn place rest kind     == the file of a put has these bytes behind its first ones, as far as may be
--   HasEnds v w rest              == so does that of each open stream, behind the stripes given so far
--   IsAtWork v                    == whatever its streams are still given, the desk stands for some state,
--                                    over some devices of which the disk tells nothing: what its parts owe
--                                    each other, whatever devices it was lent
--   DeskCarries v told            == the disk carries the desk: in its area the text, up to the core's end,
--                                    of records that fold to its table, but for what the moves of an append in
--                                    flight have done; a disk that tells nothing carries every desk
--   Comes c job action            == what comes next for a job, by its core; it waits for no stripe
--   DeskMakesStep, DeskMakesBegin == a step and a begin are events of the machine
use Rattle.std.specs.Prelude.{◌≡◌, ◌≢◌, ℕ, ◌-◌, ◌*◌, ◌++◌, false, List, length, take, Option, Some, None, Result, IfSome}
use Rattle.device_defs.specs.Cells.{Cells}
use Rattle.device_defs.specs.Providers.{Provider}
use Rattle.record_defs.specs.Records.{Record, largest_file}
use Rattle.record_defs.specs.Areas.{Area, base_of, end_in}
use Rattle.machine_defs.specs.Actions.{Action}
use Rattle.machine_defs.specs.Jobs.{Kind, PutJob, Job, job_of}
use Rattle.machine_defs.specs.Answers as answers
use Rattle.machine_defs.specs.Events.{Step, Ended, AreBytes}
use Rattle.machine_defs.specs.Heard.{heard_by}
use Rattle.machine_defs.specs.Begins.{BeginsAt}
use Rattle.machine_defs.specs.States.{State, setup_in}
use Rattle.machine_defs.specs.States as states
use Rattle.machine_defs.specs.Machine.{Happens}
use Rattle.record_codec.specs.Entries.{with_master}
use Rattle.journal_core.specs.Appends.{Appends, moves_of}
use Rattle.journal_core.specs.Texts.{StandsFirm}
use Rattle.vault_table.specs.Values.{IsFoldOf}
use Rattle.vault_core.specs.View.{CoreView, told_in, wants_in}
use Rattle.vault_core.specs.Coming.{Acts, next_in}
use Rattle.vault_core.specs.Carried.{CoreIs, ComesNext}
use Rattle.vault_core.specs.Streams.{stripe_size}
use Rattle.vault_core.specs.declared.wish.BeginFault.{BeginFault}
use Rattle.vault.specs.declared.flight.Flight.{Flight}
use Rattle.vault.specs.declared.desk.Desk.{Desk}
use Rattle.vault.specs.declared.turn.Turn.{Turn}
use Rattle.vault_open.specs.Devices.{Devices, devices, AreDevices}
use Rattle.vault.specs.Devices.{IsSameBeyond, IsSamePast}
use Rattle.vault.specs.Outcomes.{outcome_of, begin_outcome, IfEnded}
use Rattle.vault.specs.Tasks.{AreRunning}
use Rattle.vault.specs.AtHand.{AreAtHand}

-- the shape is that of the setup
pub record IsShaped (v : Desk) : Type 0 where
  pub n : v.shape.n ≡ v.setup.n
  pub l : v.shape.l ≡ v.setup.l
  pub b : v.shape.b ≡ v.setup.b

-- the append in flight, and what the disk holds of it
abbrev pub IsFlight : Option Flight → Option states.Append → Area → List Record → Option Cells → Type 0
IsFlight None None area rs told = IfSome told (StandsFirm area rs)
IsFlight (Some f) (Some flight) area rs told =
    (moves_of f.append ≡ flight.moves) × Appends area rs flight.entry f.append told
IsFlight f flight area rs told = ⊥

-- the desk and the devices stand for a state
pub record DeskStands (v : Desk) (d : Devices) (w : State) : Type 0 where
  pub devices : AreDevices d w
  pub core : CoreIs v.core w
  pub base : v.base ≡ base_of w.area
  pub setup : setup_in w ≡ with_master v.setup v.master.0
  pub shaped : IsShaped v
  pub jobs : AreRunning (setup_in w) v.jobs.items w.jobs
  pub streams : AreAtHand (setup_in w) v.core.jobs v.jobs.items w.jobs
  pub flight : w.is_barred ≡ false → IsFlight v.flight w.append w.area w.journal d.holds

-- the file of a put has these bytes behind its first ones, as far as it may
abbrev pub PutEndsIn : ℕ → List ℕ → Kind → Type 0
PutEndsIn place rest (PutJob name bytes) =
    (before : List ℕ) × (bytes ≡ before ++ take (largest_file - place) rest) × (length before ≡ place)
PutEndsIn place rest kind = ⊥

-- so does the file of each open stream, behind the stripes given so far
abbrev pub HasEnds : Desk → State → (ℕ → List ℕ) → Type 0
HasEnds v w rest =
    (number stripes : ℕ) (job : Job) → told_in v.core.jobs number ≡ Some stripes
    → job_of w.jobs number ≡ Some job
    → PutEndsIn (stripes * stripe_size (setup_in w) job.profile) (rest number) job.kind

-- whatever its streams are still given, the desk stands for some state, over some devices of which the disk
-- tells nothing
abbrev pub IsAtWork : Desk → Type 0
IsAtWork v =
    (rest : ℕ → List ℕ) → ((number : ℕ) → AreBytes (rest number))
    → ∥ ((w : State) × (faults : ℕ) × (ps : List Provider) × DeskStands v (devices None faults ps) w
    × HasEnds v w rest) ∥₁

-- the records of a text that a disk holds, with the append that is made behind them
abbrev pub CarriesText : Option Flight → Area → List Record → Option Cells → Type 0
CarriesText None area rs told = IfSome told (StandsFirm area rs)
CarriesText (Some f) area rs told = (entry : Record) × Appends area rs entry f.append told

-- the disk carries the desk
abbrev pub DeskCarries : Desk → Option Cells → Type 0
DeskCarries v told =
    (area : Area) × (rs : List Record) × IsFoldOf rs v.core.table × (v.base ≡ base_of area)
    × (v.core.end ≡ end_in area rs) × CarriesText v.flight area rs told

-- a begin is one of the machine, of a put also with a profile of its own
pub record DeskMakesBegin (w : State) (moment : ℕ) (kind : Kind) (own : Option ℕ)
    (result : Result ℕ BeginFault) (v : Desk) (d : Devices) : Type 0 where
  pub state : State
  pub begins : BeginsAt 8 moment w kind own (begin_outcome result) state
  pub stands : DeskStands v d state

-- a step is one of the machine; past the text with the record in flight the disk reads as before, and where
-- a call of it failed, past the text with the record that was being appended
pub record DeskMakesStep (w : State) (moment job : ℕ) (turn : Turn) (v : Desk)
    (old new : Devices) : Type 0 where
  pub state : State
  pub happens : Happens 8 moment w (Step job) (outcome_of turn) state
  pub stands : DeskStands v new state
  pub heard : IfEnded turn (λ ended. ended.heard ≡ heard_by (job_of w.jobs job))
  pub beyond : outcome_of turn ≢ Ended answers.DiskFault → IsSameBeyond state old new
  pub torn : outcome_of turn ≡ Ended answers.DiskFault → IsSamePast w job old new

-- what comes next for a job, by its core
pub record Comes (c : CoreView) (job : ℕ) (action : Action) : Type 0 where
  pub wants : wants_in c job ≡ None
  pub value : next_in c job ≡ Acts action
  pub machine : (w : State) → CoreIs c w → ComesNext w job action None
