-- What a client is at work on, whatever devices it was lent.
--
--   alone_number x            == the job number of what runs alone
--   IsScrub v                 == a scrub is one of the machine
--   IsBesideVault v job       == a scrub runs beside this vault, which is held under its number
--   IsBeside v x              == what runs alone runs beside this vault: such a scrub, or a pack of it
--   IsAloneAtWork vault alone == something runs alone only beside an open vault, and runs there
use Rattle.std.specs.Prelude.{◌≡◌, ℕ, ◌<◌, ◌≤◌, Option, None, Some}
use Rattle.machine_defs.specs.States.{State, Scrub, setup_in}
use Rattle.hail_scrub.specs.Stands.{ScrubIs}
use Rattle.hail_scrub.specs.Views.{ScrubView, scrub_left}
use Rattle.vault.specs.declared.vault.Vault.{Vault}
use Rattle.vault.specs.Packing.{pack_number, IsPackOf}
use Rattle.vault.specs.Seen.{provider_count, held_by}
use Rattle.hail_client.specs.declared.alone.Alone.{Alone}
use Rattle.hail_client.specs.declared.alone.Alone.TheVariants as alone
use Rattle.hail_client.specs.declared.alone.ScrubJob.{ScrubJob}

-- the job number of what runs alone
abbrev pub alone_number : Alone → ℕ
alone_number (alone.Scrub job) = job.number
alone_number (alone.Pack job) = pack_number job

-- a scrub is one of the machine
pub record IsScrub (v : ScrubView) : Type 0 where
  pub state : State
  pub scrub : Scrub
  pub is : ScrubIs v (setup_in state) scrub

-- a scrub runs beside a vault that is held under its number: it has a step left, and uses no more providers
pub record IsBesideVault (v : Vault) (job : ScrubJob) : Type 0 where
  pub held : held_by v ≡ Some job.number
  pub going : 0 < scrub_left job.scrub
  pub fits : job.scrub.providers ≤ provider_count v
  pub scrub : IsScrub job.scrub

-- what runs alone runs beside a vault
abbrev pub IsBeside : Vault → Alone → Type 0
IsBeside v (alone.Scrub job) = IsBesideVault v job
IsBeside v (alone.Pack job) = IsPackOf v job

-- something runs alone only beside an open vault
abbrev pub IsAloneAtWork : Option Vault → Option Alone → Type 0
IsAloneAtWork vault None = Unit {0}
IsAloneAtWork None (Some x) = ⊥
IsAloneAtWork (Some v) (Some x) = IsBeside v x
