-- The only job of a vault on its way to the end.
--
--   IsOnly start kind own w == the only job of a state is of this kind, and has gone on since it began in
--                              `start`; its records came on top of the journal and of the history alike, in
--                              the same area
--   IsUnderWay v d          == vault and devices stand for such a state
--   SameUpTo at old new     == what is read in front of an offset is as before
--   OnWay start kind own w moment v old new
--                           == the job has made steps since a state, after so many events, and vault and
--                              devices stand for the state after them; in front of the area, and past the
--                              text with the record in flight, the disk reads as before
--   GoesToEnd start kind own w moment ended v old new
--                           == the job goes on from a state, after so many events, to this end, and vault
--                              and devices stand for the last state; outside the text, with the record that
--                              was being appended where the job was cut short, the disk reads as before
--   IsBehind start told place
--                           == a job at this place has made no action behind those that store so many
--                              stripes, where they are told
--   AdvancesTo start kind own w moment told ended v old new
--                           == a job ends, that of an open stream before its stripes are stored, where they
--                              are told; or it is further on its way
--
-- own is the profile that a put names; None where it has the setup's, and of every other job.
use Rattle.std.specs.Prelude.{◌≡◌, ℕ, ◌+◌, ◌*◌, ◌<◌, ◌≤◌, List, ◌++◌, length, take, Option, None, Some, IfSome}
use Rattle.device_defs.specs.Cells.{Cells, reads}
use Rattle.device_defs.specs.Told.{Goes}
use Rattle.record_defs.specs.Areas.{base_of}
use Rattle.record_defs.specs.Records.{Record}
use Rattle.machine_defs.specs.Jobs.{Kind, Job, job_of}
use Rattle.machine_defs.specs.Runs.{Moment, now}
use Rattle.machine_defs.specs.States.{State, setup_in}
use Rattle.machine_defs.specs.Begins.{chosen}
use Rattle.command_defs.specs.JobRuns.{AreSteps, GoesOnTo}
use Rattle.command_defs.specs.Jobs.{SameOutside}
use Rattle.opening_defs.specs.Opened.{IsOpenAtRest}
use Rattle.lone_laws.specs.Walked.{WalkedAt}
use Rattle.vault.specs.declared.turn.Ended.{Ended}
use Rattle.vault.specs.declared.vault.Vault.{Vault}
use Rattle.vault_open.specs.Devices.{Devices}
use Rattle.vault.specs.Devices.{IsSameBeyond}
use Rattle.vault.specs.Outcomes.{machine_answer}
use Rattle.vault.specs.Stands.{Stands}

-- the only job of a state, since it began in another one
pub record IsOnly (start : State) (kind : Kind) (own : Option ℕ) (w : State) : Type 0 where
  pub opened : IsOpenAtRest start 1
  pub job : Job
  pub walked : WalkedAt start kind (chosen (setup_in start) own) w job
  pub area : w.area ≡ start.area
  pub added : List Record
  pub journal : w.journal ≡ added ++ start.journal
  pub records : w.records ≡ added ++ start.records

-- vault and devices stand for a state with one job
pub record IsUnderWay (v : Vault) (d : Devices) : Type 0 where
  pub start : State
  pub kind : Kind
  pub own : Option ℕ
  pub state : State
  pub only : IsOnly start kind own state
  pub stands : Stands v d state

-- what is read in front of an offset is as before
abbrev pub SameUpTo : ℕ → Cells → Cells → Type 0
SameUpTo at old new = take at (reads new) ≡ take at (reads old)

-- the job goes on to this end
pub record GoesToEnd (start : State) (kind : Kind) (own : Option ℕ) (w : State) (moment : ℕ) (ended : Ended)
    (v : Vault) (old new : Devices) : Type 0 where
  pub last : State
  pub goes : GoesOnTo w moment 1 (machine_answer ended.answer) ended.heard last
  pub stands : Stands v new last
  pub outside_text : SameOutside start.area kind own (machine_answer ended.answer) start.journal last.journal
      old.holds new.holds

-- how far a job is since a state, of which this many were its steps
abbrev pub IsPlaced : State → ℕ → Job → Type 0
IsPlaced w count job = (begun : Job) → job_of w.jobs 1 ≡ Some begun → job.place ≡ begun.place + count

-- the job has made these steps, and vault and devices stand for the state after them
pub record OnWay (start : State) (kind : Kind) (own : Option ℕ) (w : State) (moment : ℕ) (v : Vault)
    (old new : Devices) : Type 0 where
  pub steps : List Moment
  pub are_steps : AreSteps w moment 1 steps
  pub only : IsOnly start kind own (now w steps)
  pub place : IsPlaced w (length steps) only.job
  pub stands : Stands v new (now w steps)
  pub front : Goes (SameUpTo (base_of start.area)) old.holds new.holds
  pub beyond : IsSameBeyond (now w steps) old new

-- a job has made no action behind those that store so many stripes, where they are told
abbrev pub IsBehind : State → Option ℕ → ℕ → Type 0
IsBehind start told place = IfSome told (λ stripes. place ≤ 4 + stripes * (setup_in start).n)

-- the steps of a job since it began are fewer than those that store so many stripes, where they are told
abbrev pub IsEarly : State → State → ℕ → Option ℕ → Type 0
IsEarly start w count told =
    IfSome told (λ stripes. (begun : Job) → job_of w.jobs 1 ≡ Some begun
    → begun.place + count < 4 + stripes * (setup_in start).n)

-- the job ends; that of an open stream before its stripes are stored
pub record EndsEarly (start : State) (kind : Kind) (own : Option ℕ) (w : State) (moment : ℕ)
    (told : Option ℕ) (ended : Ended) (v : Vault) (old new : Devices) : Type 0 where
  pub to_end : GoesToEnd start kind own w moment ended v old new
  pub early : IsEarly start w (length to_end.goes.steps) told

-- the job ends, or is further on its way
abbrev pub AdvancesTo : State → Kind → Option ℕ → State → ℕ → Option ℕ → Option Ended → Vault → Devices
    → Devices → Type 0
AdvancesTo start kind own w moment told None v old new = OnWay start kind own w moment v old new
AdvancesTo start kind own w moment told (Some ended) v old new =
    EndsEarly start kind own w moment told ended v old new
