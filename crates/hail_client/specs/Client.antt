-- What a client tells of itself.
--
--   client_next_job c    == the number of the next job
--   uses c               == how many providers a step uses; 0 where no vault is open
--   client_left c job    == how many steps of a job, or of what runs alone under its number, may remain at
--                           most; 0 where it does not run
--   is_open c            == a vault is open
--   names_of c           == the table that has the files in effect; None where no vault is open
--   client_coming c job  == what comes next for a job, or for what runs alone under its number, beside which
--                           there is no job; it is no job where no vault is open
--   pack_coming moves    == what comes next for a pack that has made so many moves: each is the disk call that
--                           the same move of an append is, and behind the four of them comes its end
--   client_entry c job   == the record that its append writes, by the open vault; none beside what runs alone
--   client_closed_gate c == the offset of the closed gate behind the records in effect; 0 where no vault is
--                           open
--   with_vault v streamless next
--                        == a client with this vault open, of which no stream is, and nothing alone beside it
--   without_vault next   == a client with no vault open, whose next job has this number
--   IsSame old new       == nothing changed but spare room of the open vault
use Rattle.std.specs.Prelude.{◌≡◌, ℕ, zero, suc, ◌-◌, ◌==◌, Bool, Option, Some, None, is_some, if◌then◌else◌}
use Rattle.journal_pack.specs.Packs.{moves_of}
use Rattle.record_defs.specs.Records.{Record}
use Rattle.machine_defs.specs.Actions.{Action, WriteBody, SyncBody, WriteGate, SyncGate, End}
use Rattle.vault_core.specs.Coming.{Coming, Acts, IsNoJob}
use Rattle.std.specs.Option.{option_map}
use Rattle.hail_scrub.specs.Views.{scrub_left, next_to_do}
use Rattle.vault.specs.declared.vault.Vault.{Vault}
use Rattle.vault.specs.Seen.{provider_count, IsUnchanged}
use Rattle.vault.specs.Seen as seen
use Rattle.vault.specs.Streams.{IsStreamless}
use Rattle.vault_table.specs.Values.{Kept}
use Rattle.hail_client.specs.AtWork.{alone_number}
use Rattle.hail_client.specs.declared.alone.Alone.{Alone}
use Rattle.hail_client.specs.declared.alone.Alone.TheVariants as alone
use Rattle.hail_client.specs.declared.client.Client.{Client}

-- the number of the next job of an open vault, or else this one
abbrev pub next_job_by : Option Vault → ℕ → ℕ
next_job_by (Some v) next = seen.next_job_of v
next_job_by None next = next

-- the number of the next job
abbrev pub client_next_job : Client → ℕ
client_next_job c = next_job_by c.vault c.next_job

-- how many providers an open vault uses
abbrev pub uses_by : Option Vault → ℕ
uses_by (Some v) = provider_count v
uses_by None = 0

-- how many providers a step uses
abbrev pub uses : Client → ℕ
uses c = uses_by c.vault

-- how many steps what runs alone may still make at most: a pack four moves and its end
abbrev pub alone_left : Alone → ℕ
alone_left (alone.Scrub job) = scrub_left job.scrub
alone_left (alone.Pack job) = 5 - moves_of job.pack

-- how many steps of a job of an open vault, or of what runs alone beside it, may remain at most
abbrev pub left_by : Option Vault → Option Alone → ℕ → ℕ
left_by None x job = 0
left_by (Some v) None job = seen.left_of v job
left_by (Some v) (Some x) job = if alone_number x == job then alone_left x else 0

-- how many steps of a job may remain at most
abbrev pub client_left : Client → ℕ → ℕ
client_left c job = left_by c.vault c.alone job

-- what comes next for a scrub; it is no job where nothing does
abbrev pub scrub_coming : Option Action → Coming
scrub_coming None = IsNoJob
scrub_coming (Some action) = Acts action

-- what comes next for a pack, by how many moves are made: a write, a sync, a write and a sync of the disk, as
-- the moves of an append are, and its end
abbrev pub pack_coming : ℕ → Coming
pack_coming zero = Acts WriteBody
pack_coming (suc zero) = Acts SyncBody
pack_coming (suc (suc zero)) = Acts WriteGate
pack_coming (suc (suc (suc zero))) = Acts SyncGate
pack_coming (suc (suc (suc (suc moves)))) = Acts End

-- what comes next for what runs alone
abbrev pub alone_coming : Alone → Coming
alone_coming (alone.Scrub job) = scrub_coming (next_to_do job.scrub)
alone_coming (alone.Pack job) = pack_coming (moves_of job.pack)

-- what comes next for a job of an open vault, or for what runs alone beside it; it is no job where none is open
abbrev pub coming_by : Option Vault → Option Alone → ℕ → Coming
coming_by None x job = IsNoJob
coming_by (Some v) None job = seen.coming_of v job
coming_by (Some v) (Some x) job = if alone_number x == job then alone_coming x else IsNoJob

-- what comes next for a job
abbrev pub client_coming : Client → ℕ → Coming
client_coming c job = coming_by c.vault c.alone job

-- the record that the append of a job of an open vault writes; none beside what runs alone
abbrev pub entry_by : Option Vault → Option Alone → ℕ → Option Record
entry_by (Some v) None job = seen.vault_entry v job
entry_by vault x job = None

-- the record that the append of a job writes
abbrev pub client_entry : Client → ℕ → Option Record
client_entry c job = entry_by c.vault c.alone job

-- the offset of the closed gate of an open vault
abbrev pub closed_gate_by : Option Vault → ℕ
closed_gate_by (Some v) = seen.closed_gate_of v
closed_gate_by None = 0

-- the offset of the closed gate behind the records in effect
abbrev pub client_closed_gate : Client → ℕ
client_closed_gate c = closed_gate_by c.vault

-- a vault is open
abbrev pub is_open : Client → Bool
is_open c = is_some c.vault

-- the table that has the files in effect
abbrev pub names_of : Client → Option Kept
names_of c = option_map seen.table_of c.vault

-- a client with this vault open, of which no stream is, and nothing alone beside it
abbrev pub with_vault : (v : Vault) → IsStreamless v → ℕ → Client
with_vault v streamless next = record {
  vault = Some v;
  alone = None;
  next_job = next;
  at_work = ∣ tt ∣₁;
  streamless = ∣ streamless ∣₁;
}

-- a client with no vault open
abbrev pub without_vault : ℕ → Client
without_vault next =
    record { vault = None; alone = None; next_job = next; at_work = ∣ tt ∣₁; streamless = ∣ tt ∣₁ }

-- no vault came or went, and nothing of an open one changed but spare room
abbrev pub IsSameVault : Option Vault → Option Vault → Type 0
IsSameVault None None = Unit {0}
IsSameVault (Some old) (Some new) = IsUnchanged old new
IsSameVault old new = ⊥

-- nothing changed but spare room
pub record IsSame (old new : Client) : Type 0 where
  pub vault : IsSameVault old.vault new.vault
  pub alone : new.alone ≡ old.alone
  pub next_job : new.next_job ≡ old.next_job
