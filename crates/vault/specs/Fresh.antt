-- A desk as a vault is opened, before any job.
use Rattle.std.specs.Prelude.{◌≡◌, ℕ, false, [], None, Some}
use Rattle.machine_defs.specs.Setups.{setup_or_none}
use Rattle.record_codec.specs.Entries.{with_master}
use Rattle.vault_open.specs.declared.store.Store.{Store}
use Rattle.vault.specs.declared.desk.Desk.{Desk}
use Rattle.vault.specs.Desks.{IsShaped}

-- a desk with no job, over a store
pub record IsFreshDesk (v : Desk) (store : Store) (first : ℕ) : Type 0 where
  pub core : v.core
      ≡ record {
        table = store.table;
        setup = setup_or_none store.table.setup;
        end = store.end;
        jobs = [];
        next_job = first;
        append = None;
        barred = false;
      }
  pub base : v.base ≡ store.base
  pub setup : store.table.setup ≡ Some (with_master v.setup v.master.0)
  pub shaped : IsShaped v
  pub flight : v.flight ≡ None
  pub jobs : v.jobs.items ≡ []
