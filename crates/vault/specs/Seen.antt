-- What a vault tells of itself.
--
--   vault_setup, master_of, table_of, next_job_of, provider_count v
--                                == its setup, its master key, the fold of the records in effect, the number
--                                   of the next job, how many providers it uses
--   coming_of, vault_entry v job == what comes next for a job, and the record that its append writes, by the
--                                   core
--   closed_gate_of v             == the offset of the closed gate behind the records in effect
--   left_of v job                == how many steps of a job may remain at most; 0 where it does not run
--   held_by v                    == the number under which it is held; None where it is not
--   IsUnchanged old new          == the same jobs with what they work with, the same core, the same append;
--                                   spare room does not count
use Rattle.std.specs.Prelude.{◌≡◌, ℕ, ◌-◌, List, Option}
use Rattle.record_defs.specs.Records.{Record}
use Rattle.vault_core.specs.Coming.{Coming, next_in, entry_in, core_left}
use Rattle.record_codec.specs.declared.setup.Setup.{Setup}
use Rattle.vault_table.specs.Values.{Kept}
use Rattle.vault.specs.declared.vault.Vault.{Vault}
use Rattle.vault.specs.Running.{IsSameDesk}

-- the numbers of the setup
abbrev pub vault_setup : Vault → Setup
vault_setup v = v.desk.setup

-- the master key
abbrev pub master_of : Vault → List ℕ
master_of v = v.desk.master.0

-- the fold of the records in effect
abbrev pub table_of : Vault → Kept
table_of v = v.desk.core.table

-- the number of the next job
abbrev pub next_job_of : Vault → ℕ
next_job_of v = v.desk.core.next_job

-- how many providers a step uses
abbrev pub provider_count : Vault → ℕ
provider_count v = v.desk.setup.n

-- what comes next for a job
abbrev pub coming_of : Vault → ℕ → Coming
coming_of v job = next_in v.desk.core job

-- the record that the append of a job writes
abbrev pub vault_entry : Vault → ℕ → Option Record
vault_entry v job = entry_in v.desk.core job

-- the offset of the closed gate behind the records in effect
abbrev pub closed_gate_of : Vault → ℕ
closed_gate_of v = v.desk.core.end - 1

-- how many steps of a job may remain at most; 0 where it does not run
abbrev pub left_of : Vault → ℕ → ℕ
left_of v job = core_left v.desk.core job

-- the number under which it is held
abbrev pub held_by : Vault → Option ℕ
held_by v = v.held

-- nothing changed but spare room
abbrev pub IsUnchanged : Vault → Vault → Type 0
IsUnchanged old new = IsSameDesk old.desk new.desk × (new.held ≡ old.held)
