-- How the one job of a command is refused or ends, as it is seen of the devices. Records have the newest
-- first.
--
--   IsSeenBefore seen d                     == what was seen of disk and providers before a vault was opened,
--                                              where they are these once it is
--   IsSeenAfter seen d                      == what is seen of disk and providers once the job ended
--   IsRefusedOver area records kind own why == the begin is refused with its cause, or found no memory
--   NoFaultUndone old new                   == no count of faults of the disk or of a provider fell, and no
--                                              provider came or went
--   EndsOver area records kind own ended old new
--                                           == the job was not refused, and ran to this end, as a run of the
--                                              machine and by what it left
--
-- own is the profile that a put names; None where it has the setup's, and of every other job.
use Rattle.std.specs.Prelude.{◌≡◌, ◌⊎◌, ℕ, ◌≤◌, List, length, Option, None, Some}
use Rattle.std.specs.Option.{option_map}
use Rattle.device_defs.specs.Cells.{reads}
use Rattle.record_defs.specs.Records.{Record}
use Rattle.record_defs.specs.Areas.{Area}
use Rattle.machine_defs.specs.Jobs.{Kind}
use Rattle.command_defs.specs.Seen.{Seen, provider_at}
use Rattle.command_defs.specs.Refusals as commands
use Rattle.command_defs.specs.Jobs.{RunsAlone, LeftAlone}
use Rattle.vault_core.specs.declared.wish.BeginFault.{BeginFault}
use Rattle.vault_core.specs.declared.wish.BeginFault.TheVariants as begin_fault
use Rattle.vault_core.specs.Carried.{refusal_of}
use Rattle.vault.specs.declared.turn.Ended.{Ended}
use Rattle.vault_open.specs.Devices.{Devices}
use Rattle.vault.specs.Outcomes.{machine_answer}

-- what was seen before a vault was opened, which syncs the disk and counts no fault of it
pub record IsSeenBefore (seen : Seen) (d : Devices) : Type 0 where
  pub reads : option_map reads d.holds ≡ option_map reads seen.disk
  pub faults : d.faults ≡ seen.disk_faults
  pub providers : seen.providers ≡ d.providers

-- what is seen afterwards
pub record IsSeenAfter (seen : Seen) (d : Devices) : Type 0 where
  pub disk : seen.disk ≡ d.holds
  pub faults : seen.disk_faults ≡ d.faults
  pub providers : seen.providers ≡ d.providers

-- the begin is refused with its cause, or found no memory
abbrev pub IsRefusedOver : Area → List Record → Kind → Option ℕ → BeginFault → Type 0
IsRefusedOver area records kind own why =
    (why ≡ begin_fault.Memory) ⊎ (commands.refusal_over area records kind own ≡ Some (refusal_of why))

-- no count of faults of the disk or of a provider fell
pub record NoFaultUndone (old new : Seen) : Type 0 where
  pub disk : old.disk_faults ≤ new.disk_faults
  pub handed : length new.providers ≡ length old.providers
  pub stores : (j : ℕ) → (provider_at old.providers j).store_faults
      ≤ (provider_at new.providers j).store_faults
  pub others : (j : ℕ) → (provider_at old.providers j).other_faults
      ≤ (provider_at new.providers j).other_faults

-- the job was not refused, and ran to this end
pub record EndsOver (area : Area) (records : List Record) (kind : Kind) (own : Option ℕ) (ended : Ended)
    (old new : Seen) : Type 0 where
  pub unrefused : commands.refusal_over area records kind own ≡ None
  pub runs : RunsAlone area records kind own (machine_answer ended.answer) old new ended.heard
  pub left : LeftAlone area records kind own (machine_answer ended.answer) old new ended.heard
  pub counts : NoFaultUndone old new
