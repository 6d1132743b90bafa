-- How a client and its devices stand for a state of the machine, and how a call is one event of it.
--
--   ClientStands c d w                             == client and devices stand for a state: a vault is open
--                                                     in both, and stands for it, beside the scrub or the
--                                                     pack that runs alone, if one does; or none is open; the
--                                                     state is sound
--   MakesEvent w moment event outcome c d          == from a state, after so many events, an event has this
--                                                     outcome, and client and devices stand for the state
--                                                     after it
--   ClientMakesStep w moment job answer c old new  == a step is an event of the machine, and, unless it is one
--                                                     of a pack, past the text of the records the disk reads
--                                                     as before
--   moment_of m                                    == this event as a moment of a run
--   IsStanding c d                                 == client and devices stand for some state
--   IsMadeAnew moment next event outcome c old new == from some closed state over the devices, the next job
--                                                     having this number, an event has this outcome: a run
--                                                     begins there
--   IsReopened old new result                      == a vault is open behind a reopening where it was done, and
--                                                     job numbers go on
--   OpensOver read next handed c holds faults      == a vault is open over some records that the disk, where
--                                                     it tells, reads: client and devices stand for each
--                                                     state that was just opened over them, and there is one
--   ImageHasFile name file image                   == an image stands for records that have this file under a
--                                                     name
--   IsReached start ms c d                         == the moments are a run from a state, and client and
--                                                     devices stand for the last state of it
--   RunsJobOn start ms job turn c d                == behind these moments a job, a scrub or a pack was
--                                                     stepped until this turn, at which it did not go on
use Rattle.std.specs.Prelude.{◌≡◌, ◌≢◌, ℕ, false, List, ◌∷◌, ◌++◌, length, Option, Some, None, Result, IfSome, is_ok}
use Rattle.device_defs.specs.Cells.{Cells}
use Rattle.device_defs.specs.Providers.{Provider}
use Rattle.record_defs.specs.Records.{Record}
use Rattle.record_defs.specs.Areas.{Area}
use Rattle.record_defs.specs.Journal.{StandsFor}
use Rattle.record_defs.specs.Table.{File, file_of}
use Rattle.machine_defs.specs.Answers as answers
use Rattle.machine_defs.specs.Events.{Event, Step, Outcome, Ended, IsSpelled}
use Rattle.machine_defs.specs.States.{State, Scrub}
use Rattle.machine_defs.specs.Alone.{unalone}
use Rattle.machine_defs.specs.Machine.{Happens}
use Rattle.machine_defs.specs.Heard.{heard_by}
use Rattle.machine_defs.specs.Jobs.{job_of}
use Rattle.machine_defs.specs.Runs.{Moment, now, IsRun}
use Rattle.machine_defs.specs.Transcripts.{RunsToEnd}
use Rattle.state_laws.specs.Sound.{IsSound}
use Rattle.hail_scrub.specs.Stands.{ScrubStands}
use Rattle.vault.specs.declared.vault.Vault.{Vault}
use Rattle.vault_open.specs.Devices.{Devices, devices, AreDevices}
use Rattle.vault.specs.Devices.{IsSameBeyond, IsSamePast}
use Rattle.opening_defs.specs.Journals.{IsRead}
use Rattle.opening_defs.specs.Opened.{IsJustOpened}
use Rattle.vault.specs.Packing.{StandsPacking}
use Rattle.vault.specs.Stands.{Stands, StandsBeside}
use Rattle.hail_client.specs.declared.alone.Alone.{Alone}
use Rattle.hail_client.specs.declared.alone.Alone.TheVariants as alone
use Rattle.hail_client.specs.declared.alone.ScrubJob.{ScrubJob}
use Rattle.hail_client.specs.declared.client.Client.{Client}
use Rattle.hail_client.specs.declared.turn.ClientTurn.{ClientTurn}
use Rattle.hail_client.specs.declared.fault.ReopenFault.{ReopenFault}
use Rattle.hail_client.specs.Client.{is_open, client_next_job}
use Rattle.hail_client.specs.Outcomes.{step_outcome, HeardIs, UnlessPack}

-- no vault is open in a state
pub record StandsClosed (next_job : ℕ) (d : Devices) (w : State) : Type 0 where
  pub devices : AreDevices d w
  pub sound : IsSound 8 w
  pub closed : w.is_open ≡ false
  pub next_job_is : w.next_job ≡ next_job

-- a scrub runs alone in a state, beside an open vault that is held under its number
pub record StandsHeld (v : Vault) (job : ScrubJob) (d : Devices) (w : State) : Type 0 where
  pub scrub : Scrub
  pub number_is : job.number ≡ scrub.number
  pub beside : StandsBeside v d (unalone w) scrub.number
  pub stands : ScrubStands job.scrub d.providers w scrub
  pub sound : IsSound 8 w

-- something runs alone in a state, beside an open vault
abbrev pub StandsAlone : Vault → Alone → Devices → State → Type 0
StandsAlone v (alone.Scrub job) d w = StandsHeld v job d w
StandsAlone v (alone.Pack job) d w = StandsPacking v job d w

-- an open vault stands for a state, with what runs alone beside it, or none is open in it; the next job has
-- this number
abbrev pub StandsBy : Option Vault → Option Alone → ℕ → Devices → State → Type 0
StandsBy None x next d w = StandsClosed next d w
StandsBy (Some v) None next d w = Stands v d w
StandsBy (Some v) (Some x) next d w = StandsAlone v x d w

-- client and devices stand for a state
abbrev pub ClientStands : Client → Devices → State → Type 0
ClientStands c d w = StandsBy c.vault c.alone c.next_job d w

-- client and devices stand for some state
pub record IsStanding (c : Client) (d : Devices) : Type 0 where
  pub state : State
  pub stands : ClientStands c d state

-- an event is one of the machine, and client and devices stand for the state after it
pub record MakesEvent (w : State) (moment : ℕ) (event : Event) (outcome : Outcome) (c : Client)
    (d : Devices) : Type 0 where
  pub state : State
  pub spelled : IsSpelled event
  pub happens : Happens 8 moment w event outcome state
  pub stands : ClientStands c d state

-- a step is an event of the machine; unless it is one of a pack, which writes into the other area, past the
-- text with the record in flight the disk reads as before, and where a call of it failed, past the text with
-- the record that was being appended
pub record ClientMakesStep (w : State) (moment job : ℕ) (answer : Option ClientTurn) (c : Client)
    (old new : Devices) : Type 0 where
  pub makes : MakesEvent w moment (Step job) (step_outcome answer) c new
  pub beyond : UnlessPack answer
      (step_outcome answer ≢ Ended answers.DiskFault → IsSameBeyond makes.state old new)
  pub torn : UnlessPack answer (step_outcome answer ≡ Ended answers.DiskFault → IsSamePast w job old new)

-- from some closed state over these devices an event is one of the machine
pub record IsMadeAnew (moment next : ℕ) (event : Event) (outcome : Outcome) (c : Client)
    (old new : Devices) : Type 0 where
  pub before : State
  pub stands_before : StandsClosed next old before
  pub makes : MakesEvent before moment event outcome c new

-- a client behind a reopening
pub record IsReopened (old new : Client) (result : Result Unit ReopenFault) : Type 0 where
  -- a vault is open where it was done, and none after an error
  pub opens : is_open new ≡ is_ok result
  -- job numbers go on
  pub next_job : client_next_job new ≡ client_next_job old

-- client and devices stand for each state that was just opened over some records that were read, and there
-- is one
pub record OpensOver (read : Option Cells) (next handed : ℕ) (c : Client) (holds : Option Cells)
    (faults : ℕ) : Type 0 where
  pub area : Area
  pub records : List Record
  pub is_read : IsRead read area records
  pub each : (w : State) (providers : List Provider) → IsJustOpened w area records next faults providers →
      ClientStands c (devices holds faults providers) w
  pub one : (providers : List Provider) → length providers ≡ handed
      → (w : State) × IsJustOpened w area records next faults providers

-- an image stands for records that have this file under a name
pub record ImageHasFile (name : List ℕ) (file : File) (image : List ℕ) : Type 0 where
  pub records : List Record
  pub stands : StandsFor image records
  pub has : file_of records name ≡ Some file

-- an event as a moment of a run
abbrev pub moment_of : {w : State} {moment : ℕ} {event : Event} {outcome : Outcome} {c : Client}
    {d : Devices} → MakesEvent w moment event outcome c d → Moment
moment_of {w} {moment} {event} {outcome} {c} {d} m =
    record { event = event; outcome = outcome; state = m.state }

-- client and devices stand for the last state of a run
pub record IsReached (start : State) (ms : List Moment) (c : Client) (d : Devices) : Type 0 where
  pub run : IsRun 8 start ms
  pub stands : ClientStands c d (now start ms)

-- behind a run a job was stepped until it did not go on, and what it heard is told at its end
pub record RunsJobOn (start : State) (ms : List Moment) (job : ℕ) (turn : Option ClientTurn) (c : Client)
    (d : Devices) : Type 0 where
  pub steps : List Moment
  pub last : Moment
  pub runs : RunsToEnd job last steps
  pub outcome_is : last.outcome ≡ step_outcome turn
  pub reached : IsReached start (last ∷ (steps ++ ms)) c d
  pub heard : IfSome turn (λ t. HeardIs t (heard_by (job_of (now start (steps ++ ms)).jobs job)))
