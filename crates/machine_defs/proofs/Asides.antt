-- A step of a scrub or of a pack leaves all of the state but what runs alone, the journal and the devices:
-- one lemma for every walk.
use Rattle.machine_defs.proofs.Words.{◌≡◌, Bool, refl, Record, Area, Provider, Outcome, State, Alone, StepsAlone}
use Rattle.std.proofs.Common.{ℕ, List, Option}
use Rattle.machine_defs.proofs.Cases.{by_alone}

-- jobs, records, doubt, numbers and bytes stay
pub record IsAside (old new : State) : Type 0 where
  pub jobs : new.jobs ≡ old.jobs
  pub append : new.append ≡ old.append
  pub records : new.records ≡ old.records
  pub doubt : new.doubt ≡ old.doubt
  pub bytes : new.bytes ≡ old.bytes
  pub audits : new.audits ≡ old.audits
  pub is_open : new.is_open ≡ old.is_open
  pub handed : new.handed ≡ old.handed
  pub next_job : new.next_job ≡ old.next_job

-- a step of what runs alone leaves jobs, records, doubt, numbers and bytes as they were
pub steps_aside : (old : State) (x : Alone) (r : Outcome) (new : State) → StepsAlone old x r new →
    IsAside old new
steps_aside old x r new h = by_alone old x (λ r w. IsAside old w) (record {
  stores = λ scrub rest j o s p is todo call. leaves _ _ _ _ _ _ _;
  stores_not = λ j p how call. leaves _ _ _ _ _ _ _;
  fetches = λ scrub left j o s block p call. leaves _ _ _ _ _ _ _;
  aside = λ left r h. leaves _ _ _ _ _ _ _;
  packs = λ left barred switching journal area faults r h low. leaves _ _ _ _ _ _ _;
}) r new h
  where
    leaves : (alone : Option Alone) (barred switching : Bool) (journal : List Record) (area : Area)
        (providers : ℕ → Provider) (faults : ℕ) → IsAside old
        (record old {
          alone = alone;
          is_barred = barred;
          is_switching = switching;
          journal = journal;
          area = area;
          providers = providers;
          disk_faults = faults;
        })
    leaves alone barred switching journal area providers faults = record {
      jobs = refl;
      append = refl;
      records = refl;
      doubt = refl;
      bytes = refl;
      audits = refl;
      is_open = refl;
      handed = refl;
      next_job = refl;
    }
