-- States whose vault was just opened. Records have the newest first.
--
--   AreHanded ps w               == the providers handed in are those of a state
--   IsOpenAtRest w first         == a vault is open in a state at rest, and the next job has this number
--   IsJustOpened w area rs first faults ps
--                                == the same where the disk holds these records in this area, with this count
--                                   of faults of the disk and these providers; the history, and the bytes of
--                                   the files in effect, may be any that go with these records
use Rattle.std.specs.Prelude.{◌≡◌, ℕ, ◌<◌, true, List, length, slice_get, Some}
use Rattle.device_defs.specs.Providers.{Provider}
use Rattle.record_defs.specs.Records.{Record}
use Rattle.record_defs.specs.Areas.{Area}
use Rattle.machine_defs.specs.States.{State}
use Rattle.state_laws.specs.Sound.{IsAtRest}

-- the providers handed in are those of a state
pub record AreHanded (providers : List Provider) (w : State) : Type 0 where
  pub count : w.handed ≡ length providers
  pub each : (j : ℕ) → j < length providers → slice_get providers j ≡ Some (w.providers j)

-- a vault is open in a state at rest, and the next job has this number
pub record IsOpenAtRest (w : State) (first : ℕ) : Type 0 where
  pub rest : IsAtRest w
  pub opened : w.is_open ≡ true
  pub next : w.next_job ≡ first

-- a state at rest whose vault was just opened over these records
pub record IsJustOpened (w : State) (area : Area) (rs : List Record) (first faults : ℕ)
    (providers : List Provider) : Type 0 where
  pub at_rest : IsOpenAtRest w first
  pub journal : w.journal ≡ rs
  pub area_is : w.area ≡ area
  pub faults_are : w.disk_faults ≡ faults
  pub handed : AreHanded providers w
