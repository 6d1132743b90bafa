-- The state at the start of a run over devices.
--
--   provider_or_empty ps j == what is seen of the provider of a number; one that tells that it holds nothing
--                             where none is handed in
--   start_of d rs          == the state before the first event over these devices, where the disk stands for
--                             these records
--   TellAll ps             == each provider handed in tells what it holds
use Rattle.std.specs.Prelude.{◌≡◌, ℕ, zero, suc, false, List, [], ◌∷◌, length, slice_get, None, Some, IsSome}
use Rattle.device_defs.specs.Providers.{Provider}
use Rattle.record_defs.specs.Records.{Record}
use Rattle.record_defs.specs.Areas.{A}
use Rattle.machine_defs.specs.States.{State}
use Rattle.vault_open.specs.Devices.{Devices}

-- a provider that tells that it holds nothing, and counts nothing: it stands at each place past those
-- handed in
abbrev pub anyone : Provider
anyone = record { held = Some (λ object stripe. None); store_faults = 0; other_faults = 0; fetches = 0 }

-- the provider of a number
abbrev pub provider_or_empty : List Provider → ℕ → Provider
provider_or_empty [] j = anyone
provider_or_empty (p ∷ ps) zero = p
provider_or_empty (p ∷ ps) (suc j) = provider_or_empty ps j

-- the state before the first event
abbrev pub start_of : Devices → List Record → State
start_of d rs = record {
  records = rs;
  journal = rs;
  area = A;
  is_switching = false;
  bytes = λ id. [];
  audits = λ number. 0;
  jobs = [];
  next_job = 1;
  alone = None;
  append = None;
  doubt = None;
  providers = provider_or_empty d.providers;
  handed = length d.providers;
  disk_faults = d.faults;
  is_open = false;
  is_barred = false;
}

-- each provider handed in tells what it holds
abbrev pub TellAll : List Provider → Type 0
TellAll ps = (j : ℕ) (p : Provider) → slice_get ps j ≡ Some p → IsSome p.held
