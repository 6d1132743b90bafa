-- How a vault and its devices stand for a state of the machine: by its desk.
--
--   Stands v d w          == the vault, which is not held, and the devices stand for a state in which a vault
--                            is open
--   StandsBeside v d w number
--                         == the vault is held under a number, and it and the devices stand for this state
--                            with nothing alone in it: that of the machine without what runs alone
--   HoldsOver w d result v == what a hold comes to: a number is drawn and the vault held under it; or why
--                            nothing may run alone
--   Carries v told        == the disk carries the vault: in its area the text, up to the core's end, of
--                            records that fold to its table, but for what the moves of an append in flight
--                            have done; a disk that tells nothing carries every vault
--   MakesStep, MakesBegin == a step and a begin are events of the machine
use Rattle.std.specs.Prelude.{◌≡◌, ◌≢◌, ℕ, ◌+◌, false, [], Option, None, Some, Result, Ok, Err}
use Rattle.device_defs.specs.Cells.{Cells}
use Rattle.machine_defs.specs.Jobs.{Kind}
use Rattle.machine_defs.specs.Alone.{alone_refusal}
use Rattle.machine_defs.specs.Answers as answers
use Rattle.machine_defs.specs.Begins.{BeginsAt}
use Rattle.machine_defs.specs.Events.{Step, Ended}
use Rattle.machine_defs.specs.Heard.{heard_by}
use Rattle.machine_defs.specs.Jobs.{job_of}
use Rattle.machine_defs.specs.Machine.{Happens}
use Rattle.machine_defs.specs.States.{State}
use Rattle.vault_core.specs.Carried.{refusal_of}
use Rattle.vault_core.specs.declared.wish.BeginFault.{BeginFault}
use Rattle.vault_open.specs.Devices.{Devices}
use Rattle.vault.specs.declared.turn.Turn.{Turn}
use Rattle.vault.specs.declared.vault.Vault.{Vault}
use Rattle.vault.specs.Desks.{DeskStands, DeskCarries}
use Rattle.vault.specs.Devices.{IsSameBeyond, IsSamePast}
use Rattle.vault.specs.Outcomes.{outcome_of, begin_outcome, IfEnded}

-- the vault, which is not held, and the devices stand for a state
pub record Stands (v : Vault) (d : Devices) (w : State) : Type 0 where
  pub free : v.held ≡ None
  pub desk : DeskStands v.desk d w

-- the vault is held under a number; with the devices it stands for a state beside which something runs alone
pub record StandsBeside (v : Vault) (d : Devices) (w : State) (number : ℕ) : Type 0 where
  pub held : v.held ≡ Some number
  pub desk : DeskStands v.desk d w
  pub idle : w.jobs ≡ []
  pub unbarred : w.is_barred ≡ false

-- what a hold comes to
abbrev pub HoldsOver : State → Devices → Result ℕ BeginFault → Vault → Type 0
HoldsOver w d (Ok number) v =
    (alone_refusal w [] ≡ None) × (number ≡ w.next_job)
    × StandsBeside v d (record w { next_job = w.next_job + 1 }) number
HoldsOver w d (Err why) v = (alone_refusal w [] ≡ Some (refusal_of why)) × Stands v d w

-- the disk carries the vault
abbrev pub Carries : Vault → Option Cells → Type 0
Carries v told = DeskCarries v.desk told

-- a begin is one of the machine, of a put also with a profile of its own
pub record MakesBegin (w : State) (moment : ℕ) (kind : Kind) (own : Option ℕ)
    (result : Result ℕ BeginFault) (v : Vault) (d : Devices) : Type 0 where
  pub state : State
  pub begins : BeginsAt 8 moment w kind own (begin_outcome result) state
  pub stands : Stands v d state

-- a step is one of the machine; past the text with the record in flight the disk reads as before, and where
-- a call of it failed, past the text with the record that was being appended
pub record MakesStep (w : State) (moment job : ℕ) (turn : Turn) (v : Vault)
    (old new : Devices) : Type 0 where
  pub state : State
  pub happens : Happens 8 moment w (Step job) (outcome_of turn) state
  pub stands : Stands v new state
  pub heard : IfEnded turn (λ ended. ended.heard ≡ heard_by (job_of w.jobs job))
  pub beyond : outcome_of turn ≢ Ended answers.DiskFault → IsSameBeyond state old new
  pub torn : outcome_of turn ≡ Ended answers.DiskFault → IsSamePast w job old new
