-- What a step calls, and what it does to its job: one record for each, which a contract cites whole.
--
--   CallsNext D P coming disk providers new_disk new_providers
--                               == of the devices only the one that the next action calls was called, once
--   HasActed old new job turn   == an action of a job was made, and it goes on or ends
--   LeavesVault old new turn    == what a step of a job leaves of a vault, by what came of it
--   CallsPack D pack turn disk new_disk
--                               == of the disk as much was called as the next move of a pack calls
--   IsPackOn v job next         == a pack of this vault is one move on
--   LeavesPacking old new turn  == what a step of a pack leaves of a vault, by what came of it
use Rattle.std.specs.Prelude.{◌≡◌, ◌<◌, ◌+◌, ℕ, true, false, List, None, is_some}
use Rattle.device_defs.specs.Faults.{one_more}
use Rattle.disk_model.specs.declared.disk.Disk.{Ghosts as DiskGhosts}
use Rattle.provider_model.specs.declared.provider.Provider.{Ghosts as ProviderGhosts}
use Rattle.journal_pack.specs.Packs.{to_of, text_of, moves_of}
use Rattle.journal_pack.specs.declared.pack.Pack.{Pack}
use Rattle.stripe_bench.specs.Calls.{CallsOnly}
use Rattle.vault_core.specs.View.{CoreView}
use Rattle.vault_core.specs.Coming.{Coming, core_left, calls_disk, called_provider}
use Rattle.vault.specs.AtHand.{KeepsStreams}
use Rattle.vault.specs.Outcomes.{IfEnded, IsNoAction, HasPaddedCounts}
use Rattle.vault.specs.Packing.{IsPackOf, IfPackDone, IsPackDone}
use Rattle.vault.specs.Seen.{held_by, next_job_of}
use Rattle.vault.specs.Streams.{KeepsStreamless, KeepsTold}
use Rattle.vault.specs.declared.packing.PackJob.{PackJob}
use Rattle.vault.specs.declared.packing.PackTurn.{PackTurn}
use Rattle.vault.specs.declared.turn.Turn.{Turn}
use Rattle.vault.specs.declared.turn.Turn.TheVariants as turn
use Rattle.vault.specs.declared.vault.Vault.{Vault}

-- Of the devices only the one that the next action calls was called, once: the disk where the action is a move
-- of an append, and it still tells what it holds or still does not; and the provider that the action names.
-- What was not called stays as it is.
pub record CallsNext {W X : Type 0} (D : DiskGhosts W) (P : ProviderGhosts X) (coming : Coming) (disk : W)
    (providers : List X) (new_disk : W) (new_providers : List X) : Type 0 where
  pub tells : is_some (D.holds new_disk) ≡ is_some (D.holds disk)
  pub still : calls_disk coming ≡ false → new_disk ≡ disk
  pub one_disk_call : calls_disk coming ≡ true → D.calls new_disk ≡ one_more (D.calls disk)
  pub called : CallsOnly P.calls (called_provider coming) providers new_providers

-- an action of a job was made: it goes on with fewer steps left, or ends, an audit with padded counts; no
-- stream was opened or told of a stripe
pub record HasActed (old new : CoreView) (job : ℕ) (t : Turn) : Type 0 where
  pub acted : IsNoAction t → ⊥
  pub left : t ≡ turn.More → core_left new job < core_left old job
  pub padded : IfEnded t (λ ended. HasPaddedCounts ended.answer)
  pub streams : KeepsStreams old new

-- what a step of a job leaves of a vault, by what came of it
pub record LeavesVault (old new : Vault) (t : Turn) : Type 0 where
  -- an audit ends with padded counts
  pub padded : IfEnded t (λ ended. HasPaddedCounts ended.answer)
  -- the vault is held as before
  pub held : held_by new ≡ held_by old
  -- no stream was opened
  pub streams : KeepsStreamless old new
  -- each job that still runs was given what it was given before
  pub told : (number : ℕ) → KeepsTold old new number

-- A step of a pack called the disk once; behind the fourth move it ended, and called nothing. The disk still
-- tells what it holds, or still does not.
pub record CallsPack {W : Type 0} (D : DiskGhosts W) (pack : Pack) (t : PackTurn) (disk new_disk : W) : Type 0
  where
    pub tells : is_some (D.holds new_disk) ≡ is_some (D.holds disk)
    pub called : moves_of pack < 4 → D.calls new_disk ≡ one_more (D.calls disk)
    pub ends : moves_of pack ≡ 4 → IsPackDone t × (new_disk ≡ disk)

-- a pack of this vault is one move on, with the same text for the same place
pub record IsPackOn (v : Vault) (job next : PackJob) : Type 0 where
  pub is_of : IsPackOf v next
  pub number : next.number ≡ job.number
  pub moves : moves_of next.pack ≡ moves_of job.pack + 1
  pub to : to_of next.pack ≡ to_of job.pack
  pub text : text_of next.pack ≡ text_of job.pack

-- what a step of a pack leaves of a vault, by what came of it
pub record LeavesPacking (old new : Vault) (t : PackTurn) : Type 0 where
  -- where the pack ended, the vault is held no more
  pub free : IfPackDone t (held_by new ≡ None)
  -- no number was drawn
  pub next_job : next_job_of new ≡ next_job_of old
  -- no stream was opened
  pub streams : KeepsStreamless old new
