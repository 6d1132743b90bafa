-- A vault over providers that replace the ones before.
use Rattle.vault.proofs.Words.{ℕ, List, refl, sym, ◌∙◌, Provider, State, AreHanded, CoreIs, CoreView, Devices, devices, Desk, Vault, DeskStands, Stands, StandsBeside, setup_same}
use Rattle.state_laws.proofs.Events.{devices-sound}
use Rattle.vault.proofs.Ways.{stands_on}

module _ (d : Devices) (w : State) (ps : List Provider) (providers : ℕ → Provider) where
  -- the state with these providers
  abbrev pub replaced : State
  replaced = record w { providers = providers }

  core_replaced : (c : CoreView) → CoreIs c w → CoreIs c replaced
  core_replaced c is = record {
    sound = devices-sound 8 w providers w.disk_faults is.sound;
    is_open = is.is_open;
    none_alone = is.none_alone;
    table = is.table;
    setup = is.setup ∙ sym (setup_same w replaced refl);
    end = is.end;
    jobs = is.jobs;
    next_job = is.next_job;
    append = is.append;
    barred = is.barred;
  }

  -- a desk stands for it
  pub desk_replaced : (v : Desk) → DeskStands v d w → AreHanded ps replaced
      → DeskStands v (devices d.holds d.faults ps) replaced
  desk_replaced v S handed =
      stands_on v v w replaced d.holds d.faults d.providers ps S
      (record { records = refl; journal = refl; area = refl; switching = refl; doubt = refl; append = refl; faults = refl; barred = refl })
      handed (core_replaced v.core S.core)
      (record { setup = refl; master = refl; shape = refl; base = refl }) refl S.jobs S.streams

  -- so does a vault that is not held
  pub vault_replaced : (v : Vault) → Stands v d w → AreHanded ps replaced
      → Stands v (devices d.holds d.faults ps) replaced
  vault_replaced v S handed = record { free = S.free; desk = desk_replaced v.desk S.desk handed }

  -- and one that is
  pub held_replaced : (v : Vault) (number : ℕ) → StandsBeside v d w number → AreHanded ps replaced
      → StandsBeside v (devices d.holds d.faults ps) replaced number
  held_replaced v number S handed = record {
    held = S.held;
    desk = desk_replaced v.desk S.desk handed;
    idle = S.idle;
    unbarred = S.unbarred;
  }
