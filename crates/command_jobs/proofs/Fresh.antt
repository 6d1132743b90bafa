-- The states for which a vault that was just opened stands.
use Rattle.command_jobs.proofs.Words.{◌≡◌, ℕ, ◌≤◌, List, length, replicate, Option, None, ap, sym, subst, ◌∙◌, arith, length-replicate, Cells, Provider, Record, Area, setup_or_none, State, setup_in, Seen, nobody, setup_in_effect, IsJustOpened, with_master, Vault, Devices, devices, vault_setup, master_of, table_of, provider_count, Stands, AreRecords, IsFreshOver}
use Rattle.record_defs.specs.Records.{Setup}
use Rattle.command_defs.specs.Opens as opens
use Rattle.vault_table.specs.Values.{IsFoldOf}
use Rattle.vault.specs.Started.{IsStarted}
use Rattle.command_jobs.proofs.Readings.{read-records}

-- what the laws on commands say of opened states
abbrev pub ThereIsOne : Type 0
ThereIsOne = (old : Seen) (records : List Record) (faults : ℕ) → (opened : opens.IsOpened old records) →
    (w : State) × IsJustOpened w opened.area records 1 faults old.providers × (w.records ≡ records)

-- devices of which only these providers are seen
abbrev seen_of : List Provider → Seen
seen_of providers = record {
  disk = None;
  disk_faults = 0;
  providers = providers;
  source = None;
  source_faults = 0;
  sink = None;
  sink_faults = 0;
}

-- over records that a start read there is a state that was just opened
pub there-opened : ThereIsOne → (area : Area) (records : List Record) (faults : ℕ) (providers : List Provider) →
    AreRecords area records → (setup_in_effect records).n ≤ length providers →
    (w : State) × IsJustOpened w area records 1 faults providers
there-opened there area records faults providers R enough =
    (let x = there (seen_of providers) records faults (record {
      area = area;
      read = record {
        some = R.some;
        in_grammar = R.in_grammar;
        accepted = R.accepted;
        room = R.room;
        reads_are = tt;
      };
      enough = enough;
    }) in
    (x.0, x.1))

-- its setup is that of the journal
pub setup-over : (w : State) (area : Area) (records : List Record) (faults : ℕ) (providers : List Provider) →
    IsJustOpened w area records 1 faults providers → setup_in w ≡ setup_in_effect records
unfolding setup_in
setup-over w area records faults providers J =
    ap setup_or_none (sym J.at_rest.rest.journal.alike.setup) ∙ ap setup_in_effect J.journal

-- a vault that stands for each such state is fresh over the records
pub fresh-vault : ThereIsOne → {v : Vault} {told holds : Option Cells} {faults : ℕ}
    (s : IsStarted v told holds faults 1) → IsFreshOver v s.area s.records holds faults
fresh-vault there {v} {told} {holds} {faults} s =
    (let ps : List Provider = replicate (setup_in_effect s.records).n nobody in
    let few : (setup_in_effect s.records).n ≤ length ps =
    (let e = length-replicate (setup_in_effect s.records).n nobody in omega (arith, e)) in
    let R = read-records told s.area s.records s.is_read in
    let x = there-opened there s.area s.records faults ps R few in
    let S = s.stands x.0 ps x.1 in
    let up = sym S.desk.setup ∙ setup-over x.0 s.area s.records faults ps x.1 in
    record {
      read = R;
      stands = s.stands;
      providers = ap (λ (z : Setup). z.n) up;
      tolerance = ap (λ (z : Setup). z.tolerance) up;
      table = subst (λ rs. IsFoldOf rs (table_of v)) x.1.journal S.desk.core.table;
      next_job = s.number;
      streams = s.streams;
    })

-- the setup of a vault that was just opened
pub fresh-setup : ThereIsOne → (v : Vault) (area : Area) (records : List Record) (holds : Option Cells)
    (faults : ℕ) → IsFreshOver v area records holds faults →
    with_master (vault_setup v) (master_of v) ≡ setup_in_effect records
fresh-setup there v area records holds faults F = (let ps = replicate (setup_in_effect records).n nobody in
    let x = there-opened there area records faults ps F.read (let e = length-replicate
    (setup_in_effect records).n nobody in omega (arith, e)) in
    sym (F.stands x.0 ps x.1).desk.setup ∙ setup-over x.0 area records faults ps x.1)

-- a vault that stands for a state uses no more providers than are handed in
pub stands-enough : (v : Vault) (d : Devices) (w : State) → Stands v d w →
    provider_count v ≤ length d.providers
stands-enough v d w S = (let a = S.desk.core.sound.handed S.desk.core.is_open in
    let b = S.desk.devices.providers.count in
    let c = ap (λ (z : Setup). z.n) S.desk.setup in
    omega (arith, a, b, c))
